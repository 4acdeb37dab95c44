-- What of `average_of` wants a proof by hand.
use Rattle.std.proofs.lemmas.Result.{err_from_is_err_and}
use Rattle.scene_system.specs.Assembled.{numbers}
use Rattle.dimming_plan.proofs.Causes.{rows_cause}
use Rattle.dimming_plan.proofs.groups.average_of.Goals as goal

pub returns-in_err-bounds-clause-refused : goal.returns-in_err-bounds-clause-refused
returns-in_err-bounds-clause-refused g c =
    let r = c.requires in
    let p = err_from_is_err_and c.from_residual.result c.from_residual.ensures.1 in
    rw (p.1, p.2) (rows_cause c.args.room.now (numbers c.args.scene.now) c.in_err-bounds.field-0.0 c.heavy_has_cause.ensures r.accepted r.formed r.weights c.in_err-bounds.ensures.refused)

pub returns-in-Ok-clause-none_heavy : goal.returns-in-Ok-clause-none_heavy
returns-in-Ok-clause-none_heavy g c =
    let r = c.requires in
    c.none_is_shown_heavy.ensures c.args.room.now (numbers c.args.scene.now) r.accepted r.formed r.weights c.in_ok-bounds.ensures.none_heavy
