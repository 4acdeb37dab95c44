use Rattle.std.proofs.Common.{◌≡◌, ◌≤◌, length, sym, ◌∙◌, arith}
use Rattle.room_layout.proofs.Selected.{step_kept, all_looked_at}
use Rattle.room_layout.proofs.selection.kept_lamps.Goals as goal

pub loop-k-preserved : goal.loop-k-preserved
loop-k-preserved c = step_kept c.args.keep.now c.args.lamps.now c.loop-k.some.items c.push_kept.new.some.items c.loop-k.k _ _
    (omega (arith, c.loop-k-test.true, c.requires.agree)) (omega (arith, c.loop-k-test.true)) c.in_ok-push_kept.ensures.pushed c.loop-k.invariant

pub returns-clause-some : goal.returns-clause-some
returns-clause-some c =
    let all : length c.args.lamps.now ≤ c.loop-k.k = omega (arith, c.loop-k-test.false) in
    rw c.from_vec.ensures (sym (all_looked_at c.args.keep.now c.args.lamps.now c.loop-k.some.items c.loop-k.k (omega (arith, all, c.requires.agree)) all) ∙ c.loop-k.invariant)
