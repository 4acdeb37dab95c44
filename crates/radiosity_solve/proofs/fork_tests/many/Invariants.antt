use Rattle.std.proofs.Common.{◌≡◌, length}
use Rattle.radiosity_solve.proofs.fork_tests.many.Given as goal

abbrev pub invariant-loop-i : goal.invariant-loop-i
invariant-loop-i l = length l.system.rows ≡ 672

abbrev pub invariant-loop-j : goal.invariant-loop-j
invariant-loop-j l = length l.system.rows ≡ 672
