-- The pieces so far are the first ones.
use Rattle.std.proofs.Common.{◌≡◌, ◌++◌, string_bytes}
use Rattle.plan_drawing.specs.Pieces.{first}
use Rattle.plan_drawing.proofs.pieces.push_pieces.Given as goal

abbrev pub invariant-loop-k : goal.invariant-loop-k
invariant-loop-k g l = string_bytes l.text ≡ string_bytes l.initial.text ++ first l.k (g.P.Pieces.piece l.things)
