-- Whether all words rise is told by those that are left.
use Rattle.std.proofs.Common.{map}
use Rattle.std.specs.Prelude.{string_bytes}
use Rattle.lux_core.proofs.Marks.{IsRisingSoFar}
use Rattle.lux_core.proofs.words.are_rising.Given as goal

abbrev pub invariant-loop-word : goal.invariant-loop-word
invariant-loop-word l = IsRisingSoFar (map string_bytes l.words) l.word-index l.least
