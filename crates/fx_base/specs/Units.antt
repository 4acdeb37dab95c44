-- What the numbers of the program stand for. A span, a weight and a bracket stand for intervals; their ends aren't negative where
-- one of these words is used (`Difference` has numbers that may be).
use Rattle.std.specs.Prelude.{ℕ, ℤ, pos, negsuc}
use Rattle.std.proofs.Math.Nat.{zero-lt-suc}
use Rattle.fx_base.specs.Fraction.{Fraction}
use Rattle.fx_base.specs.Interval.{Interval}
use Rattle.fx_base.specs.Ends.{Ends}
use Rattle.fx_base.specs.declared.micro.Bracket.{Bracket}
use Rattle.fx_base.specs.declared.weight.Weight.{Weight}

-- the whole number, and 0 in place of a negative one
abbrev pub natural : ℤ → ℕ
natural (pos n) = n
natural (negsuc n) = 0

-- t ticks of 2^-36
unfoldable pub ticks : ℕ → Fraction
ticks t = record { num = t; den = 68719476736; positive = zero-lt-suc 68719476735 }

-- m millionths
unfoldable pub millionths : ℕ → Fraction
millionths m = record { num = m; den = 1000000; positive = zero-lt-suc 999999 }

-- so many ticks to so many
abbrev pub ticks_between : ℕ → ℕ → Interval
ticks_between lo hi = record { lo = ticks lo; hi = ticks hi }

abbrev pub of_span : Ends → Interval
of_span s = ticks_between (natural s.lo) (natural s.hi)

abbrev pub of_weight : Weight → Interval
of_weight w = ticks_between w.lo w.hi

-- the weight of what isn't seen
abbrev pub no_weight : Weight
no_weight = record { lo = 0; hi = 0 }

-- so many millionths to so many
abbrev pub micros_between : ℕ → ℕ → Interval
micros_between lo hi = record { lo = millionths lo; hi = millionths hi }

-- the angles between the two ends of a bracket
abbrev pub of_bracket : Bracket → Interval
of_bracket b = micros_between (natural b.lo.0) (natural b.hi.0)
