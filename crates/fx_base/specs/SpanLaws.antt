-- What the calls of a span give holds every result of numbers that the spans hold: the ends here are those of the calls' contracts.
use Rattle.std.specs.Prelude.{ℕ, ◌*◌, ◌/◌, ◌^◌, ◌<◌, ◌≤◌, ◌+ℤ◌, pos}
use Rattle.std.specs.Int.{div_ceil}
use Rattle.fx_base.specs.Fraction.{Fraction, ◌≤ᶠ◌, ◌*ᶠ◌, ◌/ᶠ◌, ratio, whole}
use Rattle.fx_base.specs.Interval.{Contains, Meets}
use Rattle.fx_base.specs.Ends.{Ends}
use Rattle.fx_base.specs.Difference.{Difference, ◌+ᵈ◌, spans}
use Rattle.fx_base.specs.Units.{natural, of_span}
use Rattle.fx_base.specs.Root.{root}

abbrev pub holds : Ends → Fraction → Type 0
holds s x = Contains (of_span s) x

-- of any ends, also of negative ones
abbrev pub SumHolds : Type 0
SumHolds = (a b : Ends) (x y : Difference) → spans a x → spans b y → spans (record { lo = a.lo +ℤ b.lo; hi = a.hi +ℤ b.hi }) (x +ᵈ y)

abbrev pub ProductHolds : Type 0
ProductHolds = (a b : Ends) (x y : Fraction) → holds a x → holds b y
    → holds (record { lo = pos (natural a.lo * natural b.lo / 2 ^ 36); hi = pos (div_ceil (natural a.hi * natural b.hi) (2 ^ 36)) }) (x *ᶠ y)

abbrev pub ScaledHolds : Type 0
ScaledHolds = (a : Ends) (x : Fraction) (num den : ℕ) → 0 < den → holds a x
    → holds (record { lo = pos (natural a.lo * num / den); hi = pos (div_ceil (natural a.hi * num) den) }) (x *ᶠ ratio num den)

abbrev pub QuotientHolds : Type 0
QuotientHolds = (a b : Ends) (x y : Fraction) → 0 < natural b.lo → holds a x → holds b y
    → holds (record { lo = pos (natural a.lo * 2 ^ 36 / natural b.hi); hi = pos (div_ceil (natural a.hi * 2 ^ 36) (natural b.lo)) }) (x /ᶠ y)

abbrev pub FractionHolds : Type 0
FractionHolds = (num den : ℕ) → 0 < den
    → holds (record { lo = pos (num * 2 ^ 36 / den); hi = pos (div_ceil (num * 2 ^ 36) den) }) (ratio num den)

-- two ticks whose squares are at most r and at least r hold each number whose square is r, and meet the enclosures of the root
pub record HoldsRoot (r low high : ℕ) : Type 0 where
  pub members : (x : Fraction) → (x *ᶠ x) ≤ᶠ whole r → whole r ≤ᶠ (x *ᶠ x) → holds (record { lo = pos low; hi = pos high }) x
  pub meets : (n : ℕ) → Meets (of_span (record { lo = pos low; hi = pos high })) (root n r)

abbrev pub RootHolds : Type 0
RootHolds = (r low high : ℕ) → low * low ≤ (r * 4 ^ 36) → (r * 4 ^ 36) ≤ high * high → HoldsRoot r low high
