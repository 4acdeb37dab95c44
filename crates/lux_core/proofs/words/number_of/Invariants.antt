use Rattle.lux_core.proofs.Digits.{IsNumberSoFar}
use Rattle.lux_core.proofs.words.number_of.Given as goal

abbrev pub invariant-loop-byte : goal.invariant-loop-byte
invariant-loop-byte l = IsNumberSoFar l.bytes l.byte-index l.number
