-- What of `push_pieces` wants a proof by hand.
use Rattle.std.proofs.Common.{arith, string_bytes}
use Rattle.plan_drawing.proofs.Growth.{none_yet, one_more}
use Rattle.plan_drawing.proofs.pieces.push_pieces.Goals as goal

pub loop-k-init : goal.loop-k-init
loop-k-init g c = none_yet _ _

pub loop-k-preserved : goal.loop-k-preserved
loop-k-preserved g c = one_more (g.P.Pieces.piece c.args.things.now) c.loop-k.k _ (string_bytes c.loop-k.text) _ c.loop-k.invariant c.in_ok-push_piece.ensures
