use Rattle.std.proofs.Common.{arith}
use Rattle.patch_mesh.proofs.Fits.{tilings_made, made_cut, made_few}
use Rattle.patch_mesh.proofs.make.tilings.Goals as goal

pub returns-clause-tilings : goal.returns-clause-tilings
returns-clause-tilings c = tilings_made _ _ _ _ c.as_slice-blocks.ensures c.loop-block-test.false c.loop-block.invariant

pub returns-clause-few : goal.returns-clause-few
returns-clause-few c = let few = made_few c.args.room.now c.loop-block.tilings.items c.requires (returns-clause-tilings c) in omega (arith, few, c.loop-block.tilings.ok)

pub returns-clause-each : goal.returns-clause-each
returns-clause-each c = made_cut _ _ c.requires (returns-clause-tilings c)
