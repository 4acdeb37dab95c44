-- No line so far begins with `TILT=`.
use Rattle.std.proofs.Common.{◌≡◌, true, drop}
use Rattle.lm63_read.specs.Head.{tilt_from}
use Rattle.lm63_read.proofs.head.tilt_lines.Given as goal

abbrev pub invariant-loop-i : goal.invariant-loop-i
invariant-loop-i l = tilt_from true l.bytes ≡ tilt_from l.fresh (drop l.i l.bytes)
