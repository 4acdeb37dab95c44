-- The hull of the intensities over a bracket of C and one of gamma.
use Rattle.std.specs.Prelude.{length}
use Rattle.fx_base.specs.Fraction.{Fraction, lesser, greater}
use Rattle.fx_base.specs.Interval.{Interval}
use Rattle.photo_table.specs.Angles.{later}
use Rattle.photo_table.specs.Axis.{extreme}
use Rattle.photo_table.specs.Table.{Table, plane, gamma, planes_to, lower, upper, end_at}

-- the extreme end at x over the bracket g: at its ends and at the gammas in it
unfoldable pub gamma_extreme : (Fraction → Fraction → Fraction) → (Interval → Fraction) → Table → Interval → Fraction → Fraction
gamma_extreme pick end t g x = extreme pick (gamma t) (length t.gammas) g (end_at end t x)

-- the extreme one over the bracket c too, which may run over the end of a turn: at its ends and at the planes in it
unfoldable pub plane_extreme : (Fraction → Fraction → Fraction) → (Interval → Fraction) → Table → Interval → Interval → Fraction
plane_extreme pick end t c g = extreme pick (plane t) (planes_to t c.hi) c (gamma_extreme pick end t g)

-- from the least lower end to the greatest upper end
unfoldable pub hull : Table → Interval → Interval → Interval
hull t c g = record { lo = plane_extreme lesser lower t (later c) g; hi = plane_extreme greater upper t (later c) g }
