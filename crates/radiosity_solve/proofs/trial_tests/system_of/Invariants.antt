use Rattle.std.proofs.Common.{◌≡◌, length}
use Rattle.radiosity_solve.proofs.trial_tests.system_of.Given as goal

abbrev pub invariant-loop-i : goal.invariant-loop-i
invariant-loop-i l = length l.system.rows ≡ 24

abbrev pub invariant-loop-j : goal.invariant-loop-j
invariant-loop-j l = length l.system.rows ≡ 24
