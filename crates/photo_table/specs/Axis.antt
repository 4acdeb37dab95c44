-- A value that runs in straight lines from knot to knot. Knots are whole millionths of a degree and rise with their number;
-- places are fractions of degrees.
use Rattle.std.specs.Prelude.{ℕ, zero, suc, ◌-◌, ◌*◌, if◌then◌else◌, max}
use Rattle.std.proofs.Math.Nat.{mul-pos, le-max_left}
use Rattle.fx_base.specs.Fraction.{Fraction, at_most, ◌+ᶠ◌, ◌*ᶠ◌}
use Rattle.fx_base.specs.Interval.{Interval}
use Rattle.fx_base.specs.Units.{millionths}
use Rattle.fx_base.specs.Search.{greatest}
use Rattle.photo_table.specs.Angles.{is_in}

-- the part of the way from knot a to knot b that lies behind x, and the part that lies ahead of it
unfoldable pub behind : ℕ → ℕ → Fraction → Fraction
behind a b x = record { num = x.num * 1000000 - a * x.den; den = max 1 (b - a) * x.den; positive = mul-pos (le-max_left 1 (b - a)) x.positive }

unfoldable pub ahead : ℕ → ℕ → Fraction → Fraction
ahead a b x = record { num = b * x.den - x.num * 1000000; den = max 1 (b - a) * x.den; positive = mul-pos (le-max_left 1 (b - a)) x.positive }

-- the value at x on the straight line from u at knot a to v at knot b
unfoldable pub between : Fraction → ℕ → Fraction → ℕ → Fraction → Fraction
between x a u b v = (u *ᶠ ahead a b x) +ᶠ (v *ᶠ behind a b x)

-- the number of the last of the n knots that isn't above x, the very last one left out
unfoldable pub piece : (ℕ → ℕ) → ℕ → Fraction → ℕ
piece k n x = greatest (λ i. at_most (millionths (k i)) x) (n - 2)

-- the value at x of what has the value v i at each knot k i
unfoldable pub along : (ℕ → ℕ) → ℕ → (ℕ → Fraction) → Fraction → Fraction
along k n v x = let i = piece k n x in between x (k i) (v i) (k (suc i)) (v (suc i))

-- of the values that f has at both ends of a bracket and at those of the first n knots that lie in it, the one that `pick` takes
unfoldable pub extreme : (Fraction → Fraction → Fraction) → (ℕ → ℕ) → ℕ → Interval → (Fraction → Fraction) → Fraction
extreme pick k zero i f = pick (f i.lo) (f i.hi)
extreme pick k (suc n) i f =
    if is_in i (millionths (k n)) then pick (extreme pick k n i f) (f (millionths (k n))) else extreme pick k n i f
