-- Which way each symmetry goes.
use Rattle.std.proofs.Common.{◌∙◌, sym}
use Rattle.symmetry_expand.specs.AllRound.{all_round}
use Rattle.symmetry_expand.proofs.Ends.{plane90_runs, plane90_round}
use Rattle.symmetry_expand.proofs.expansion.all_planes.Goals as goal
use Rattle.symmetry_expand.proofs.expansion.all_planes.Goals.{in-Plane0, in-Plane90, in-Both}

pub whole_turn-outcome-requires-in-Plane90-clause-round : goal.whole_turn-outcome-requires-in-Plane90-clause-round
whole_turn-outcome-requires-in-Plane90-clause-round c =
    let ps = c.args.measured.planes.items in
    let r = rw (c.deref.ensures.value, c.in-Plane90.is) at (sym c.planes_run.ensures ∙ c.if-not-planes_run.false) in
    plane90_round ps (plane90_runs ps c.requires.rise r)

pub returns-in-Ok-clause-table : goal.returns-in-Ok-clause-table
unfolding all_round
returns-in-Ok-clause-table c = elim c.match-symmetry.branch [
  | in-Plane0 w ↦ rw w.in-Plane0.is (let e = sym w.outcome-is ∙ c.in-Ok.is in let h = rw e at w.whole_turn-outcome.ensures in h)
  | in-Plane90 w ↦ rw w.in-Plane90.is (let e = sym w.outcome-is ∙ c.in-Ok.is in let h = rw e at w.whole_turn-outcome-in-Plane90.ensures in h)
  | in-Both w ↦ rw w.in-Both.is (let e = sym w.outcome-is ∙ c.in-Ok.is in let h = rw e at w.whole_turn-outcome-in-Both.ensures in h)
]
