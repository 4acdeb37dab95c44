-- Angles in degrees, and intervals of them.
use Rattle.std.specs.Prelude.{◌+◌, ◌*◌, Bool, ◌&&◌}
use Rattle.fx_base.specs.Fraction.{Fraction, at_most}
use Rattle.fx_base.specs.Interval.{Interval}

-- the same direction a turn later
unfoldable pub turn_later : Fraction → Fraction
turn_later x = record { num = x.num + 360 * x.den; den = x.den; positive = x.positive }

abbrev pub later : Interval → Interval
later i = record { lo = turn_later i.lo; hi = turn_later i.hi }

-- whether x lies from the lower end to the upper one
abbrev pub is_in : Interval → Fraction → Bool
is_in i x = at_most i.lo x && at_most x i.hi
