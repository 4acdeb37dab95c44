-- The test of an angle, by the two sides that the code compares.
use Rattle.std.proofs.Common.{ℕ, ◌*◌, ◌^◌, ◌<◌, ◌≤◌, ◌≡◌, arith, IsTrue, IsFalse, leb}
use Rattle.std.proofs.Math.Nat.{mul-le-mul}
use Rattle.std.proofs.lemmas.Bool.Decides.{nat_tests}
use Rattle.fx_base.specs.Ends.{Ends}
use Rattle.fx_base.specs.Units.{natural}
use Rattle.series_enclose.specs.Enclosed.{IsSine, IsCosine}
use Rattle.series_enclose.proofs.Sizes.{sine_below, cosine_below}
use Rattle.angle_bracket.specs.Found.{IsBelow, IsBefore}
use Rattle.angle_bracket.proofs.Tangents.{row_below, row_fails}

pub square_fits : (q : ℕ) → q ≤ 68719476752 → q * q ≤ 4722366485068668469504
square_fits q h = mul-le-mul {n₁ = q} {m₁ = q} {n₂ = 68719476752} {m₂ = 68719476752} h h

pub product_fits : (q x : ℕ) → q ≤ 68719476752 → x < 2 ^ 40 → q * q * x < 2 ^ 128
product_fits q x h k =
    let m = mul-le-mul {n₁ = q * q} {m₁ = x} {n₂ = 4722366485068668469504} {m₂ = 1099511627776} (square_fits q h) (omega arith) in
    omega (arith, m)

is_at_most : (a b : ℕ) → IsTrue (leb a b) → a ≤ b
is_at_most a b h = grind (arith, nat_tests)

is_above : (a b : ℕ) → IsFalse (leb a b) → b < a
is_above a b h = grind (arith, nat_tests)

pub test_below : (x y q k : ℕ) (s c : Ends) → 0 < x → q ≡ natural s.hi * natural s.hi * x → k ≡ natural c.lo * natural c.lo * y → IsTrue (leb q k)
    → (m : ℕ) → m ≤ 45000000 → IsSine m s → IsCosine m c → IsBelow x y m
test_below x y q k s c p sine cosine h m within i j =
    record { below = row_below m x y s c within p i j (rw (sine, cosine) at (is_at_most q k h)) }

pub test_above : (x y q k : ℕ) (s c : Ends) → q ≡ natural s.hi * natural s.hi * x → k ≡ natural c.lo * natural c.lo * y → IsFalse (leb q k)
    → (m : ℕ) → IsSine m s → IsCosine m c → IsBefore x y m
test_above x y q k s c sine cosine h m i j =
    record { above = λ step n within some. row_fails m step x y s c within some i j (rw (sine, cosine) at (is_above q k h)) n }

-- ---- the ranges of the spans

pub sine_range : (m : ℕ) (s : Ends) → m ≤ 45000000 → IsSine m s → natural s.hi ≤ 68719476752
sine_range m s h i = sine_below m s h i

pub cosine_range : (m : ℕ) (c : Ends) → IsCosine m c → natural c.hi ≤ 68719476752
cosine_range m c i = cosine_below m c i
