-- The numbers so far are those of the words so far.
use Rattle.std.proofs.Common.{map}
use Rattle.std.specs.Prelude.{string_bytes}
use Rattle.lux_core.proofs.Marks.{AreMarkedSoFar}
use Rattle.lux_core.proofs.words.marked_lamps.Given as goal

abbrev pub invariant-loop-k : goal.invariant-loop-k
invariant-loop-k l = AreMarkedSoFar (map string_bytes l.words) l.k l.lamps.items
