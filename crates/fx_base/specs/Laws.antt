-- What holds of intervals that meet, of roots, and of quotients.
use Rattle.std.specs.Prelude.{ℕ, ◌⊎◌}
use Rattle.fx_base.specs.Fraction.{Fraction, ◌≤ᶠ◌, ◌≈ᶠ◌, ◌+ᶠ◌, ◌*ᶠ◌, ◌/ᶠ◌, whole, half_power, lesser}
use Rattle.fx_base.specs.Interval.{Interval, Meets, LiesIn, outward, turned, MeetsOnCircle}
use Rattle.fx_base.specs.Nesting.{IsNested}
use Rattle.fx_base.specs.Root.{root}
use Rattle.fx_base.specs.Search.{IsRootOf, whole_root}

-- an interval at most e wide that meets another lies within that other moved outward by e
abbrev pub NearByMeeting : Type 0
NearByMeeting = (a b : Interval) (e : Fraction) → a.hi ≤ᶠ (a.lo +ᶠ e) → Meets a b → LiesIn a (outward e b)

-- the same of angles, one of which is moved by whole turns
abbrev pub NearByMeetingOnCircle : Type 0
NearByMeetingOnCircle = (a b : Interval) (e : Fraction) → a.hi ≤ᶠ (a.lo +ᶠ e) → MeetsOnCircle a b →
    (turns : ℕ) × (LiesIn (turned turns a) (outward e b) ⊎ LiesIn a (outward e (turned turns b)))

-- a whole root is the greatest whole number whose square is at most that
abbrev pub RootIsGreatest : Type 0
RootIsGreatest = (n : ℕ) → IsRootOf n (whole_root n)

-- the enclosures of a root nest, and their ends are in order
abbrev pub RootNests : Type 0
RootNests = (r : ℕ) → IsNested (λ n. root n r)

-- they are 1 / 2^n wide
abbrev pub RootNarrows : Type 0
RootNarrows = (n r : ℕ) → (root n r).hi ≈ᶠ ((root n r).lo +ᶠ half_power n)

-- where a and b change by at most e, at most 2^-20, and b is at least 1, the lesser of 1 and a / b changes by at most 4 e
abbrev pub QuotientIsSteady : Type 0
QuotientIsSteady = (a b a' b' e : Fraction) → whole 1 ≤ᶠ b → e ≤ᶠ half_power 20
    → a ≤ᶠ (a' +ᶠ e) → a' ≤ᶠ (a +ᶠ e) → b ≤ᶠ (b' +ᶠ e) → b' ≤ᶠ (b +ᶠ e)
    → (lesser (whole 1) (a /ᶠ b) ≤ᶠ (lesser (whole 1) (a' /ᶠ b') +ᶠ (whole 4 *ᶠ e)))
    × (lesser (whole 1) (a' /ᶠ b') ≤ᶠ (lesser (whole 1) (a /ᶠ b) +ᶠ (whole 4 *ᶠ e)))
