-- Without boxes each way is clear.
use Rattle.std.proofs.Common.{sym}
use Rattle.std.proofs.lemmas.Bool.{eqb-true}
use Rattle.scene_system.proofs.Seen.{clear_of_none}
use Rattle.scene_system.proofs.sight.is_clear.Goals as goal

pub returns-then-is_empty : goal.returns-then-is_empty
returns-then-is_empty c = sym (clear_of_none c.args.room.now c.as_slice.result.now _ _ (sym c.as_slice.ensures) (eqb-true _ 0 (sym c.if-is_empty.ensures)))
