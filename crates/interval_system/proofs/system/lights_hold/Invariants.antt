use Rattle.std.proofs.Common.{ℕ, ◌<◌, get_or}
use Rattle.interval_system.specs.System.{IsDirectLight, no_light}
use Rattle.interval_system.proofs.system.lights_hold.Given as goal

abbrev pub invariant-loop-i : goal.invariant-loop-i
invariant-loop-i l = (k : ℕ) → k < l.i → IsDirectLight (get_or l.direct k no_light)
