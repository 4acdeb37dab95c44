-- The vantages so far are those of the points so far.
use Rattle.std.proofs.Common.{take}
use Rattle.scene_system.specs.Sight.{AreVantagesOf}
use Rattle.scene_system.proofs.sight.vantages_of.Given as goal

abbrev pub invariant-loop-at : goal.invariant-loop-at
invariant-loop-at l = AreVantagesOf l.index (take l.at-index l.points) l.vantages.items
