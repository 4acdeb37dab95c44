-- A weight by one division. F and R are the distances before the planes, multiplied, and the square of the distance; A is the area.
-- m makes F and R greater alike, and k makes R and A so; P and Q are pi's ends in ticks, d the divisor and lo the quotient.
use Rattle.std.proofs.Common.{ℕ, ◌+◌, ◌-◌, ◌*◌, ◌/◌, ◌^◌, ◌<◌, ◌≤◌, ◌≡◌, sym, arith}
use Rattle.std.proofs.Math.Nat.{mul-le-mul, mul-le-mul_left, mul-pos, le_of_mul-le-mul_left, div-eq_of_lt-le}
use Rattle.form_factor.specs.Divisor.{IsAbove, IsNear}

-- ---- a quotient that was guessed

pub guess_is : (over under g : ℕ) → g * under ≤ over → over - g * under < under → g ≡ over / under
guess_is over under g low high = sym (div-eq_of_lt-le under low (omega (arith, low, high)))

pub product_fits : (g under : ℕ) → g < 2 ^ 64 → under < 2 ^ 64 → g * under < 2 ^ 128
product_fits g under h k =
    let most : g * under ≤ 18446744073709551615 * 18446744073709551615 = mul-le-mul {n₁ = g} {m₁ = under} {n₂ = 18446744073709551615} {m₂ = 18446744073709551615} (omega arith) (omega arith) in
    omega (arith, most)

pub ruleset guessed = (guess_is, product_fits)

-- ---- the divisor

pub sum_most : (p s a : ℕ) → p ≤ 2 ^ 38 + 1 → s + a ≤ 160000000000 → p * s / 4096 + 1 + a * 16777216 ≤ 11000000000000000000
sum_most p s a h g = omega (arith, mul-le-mul_left s h)

pub times_most : (b sum : ℕ) → b ≤ 160000000000000 → sum ≤ 11000000000000000000 → b * sum ≤ 1760000000000000000000000000000000
times_most b sum h g = omega (arith, mul-le-mul h g)

pub divisor_above : (b p s a : ℕ) → IsAbove b p s a (b * (p * s / 4096 + 1 + a * 16777216) / 140737488355328 + 1)
divisor_above b p s a =
    let sum : ℕ = p * s / 4096 + 1 + a * 16777216 in
    let most : p * s + a * 68719476736 ≤ 4096 * sum = omega arith in
    record { above = omega (arith, mul-le-mul_left b most) }

pub divisor_near : (b p s a : ℕ) → IsNear b p s a (b * (p * s / 4096 + 1 + a * 16777216) / 140737488355328 + 1)
divisor_near b p s a =
    let sum : ℕ = p * s / 4096 + 1 + a * 16777216 in
    let least : 4096 * sum ≤ p * s + a * 68719476736 + 4096 = omega arith in
    record { near = omega (arith, mul-le-mul_left b least) }

-- ---- the quotient is at most one

pub times_least : (reflect F R : ℕ) → reflect ≤ 1000 → F ≤ R → reflect * F ≤ 1000 * R
times_least reflect F R dull near = mul-le-mul {n₁ = reflect} {m₁ = F} {n₂ = 1000} {m₂ = R} dull near

pub over_most : (reflect F R A m k Q d : ℕ) → reflect * F ≤ 1000 * R → IsAbove (1000 * (m * R)) Q (k * R) (k * A) d
    → reflect * (k * A) * 8192 * (m * F) ≤ 68719476736 * d
over_most reflect F R A m k Q d most h = omega (arith, h.above, mul-le-mul_left (k * A * m) most)

pub over_fits : (reflect F R A m k : ℕ) → reflect ≤ 1000 → F ≤ R → m * R ≤ 160000000000 → k * (R + A) ≤ 160000000000
    → reflect * (k * A) * 8192 * (m * F) ≤ 209715200000000000000000000000
over_fits reflect F R A m k dull near first second =
    let f : m * F ≤ 160000000000 = omega (arith, mul-le-mul_left m near, first) in
    let a : k * A ≤ 160000000000 = omega (arith, second) in
    let ra : reflect * (k * A) ≤ 160000000000000 = mul-le-mul {n₁ = reflect} {m₁ = k * A} {n₂ = 1000} {m₂ = 160000000000} dull a in
    let all : reflect * (k * A) * (m * F) ≤ 25600000000000000000000000 =
    mul-le-mul {n₁ = reflect * (k * A)} {m₁ = m * F} {n₂ = 160000000000000} {m₂ = 160000000000} ra f in
    omega (arith, all)

-- ---- the lower end

pub low_under : (reflect F R A m k Q d lo : ℕ) → 0 < m → 0 < k → IsAbove (1000 * (m * R)) Q (k * R) (k * A) d
    → lo * d ≤ reflect * (k * A) * 8192 * (m * F) → lo * ((1000 * R) * (Q * R + A * 68719476736)) ≤ ((reflect * F) * (A * 68719476736)) * 68719476736
low_under reflect F R A m k Q d lo pm pk h g =
    le_of_mul-le-mul_left {k = m * k} (omega (arith, mul-le-mul_left lo h.above, g)) (mul-pos pm pk)

-- ---- and five ticks more

room : (b s a w : ℕ) → 16777216000 ≤ b → 16777216 ≤ s + a → 206158430207 * s + 68719476736 * a ≤ w
    → 68719476737 * (b * s + 4096 * b + 576460752303423488) ≤ 4 * (b * w)
room b s a w large wide h = omega (arith, large, mul-le-mul_left b wide, mul-le-mul_left b h)

five : (b s a P Q d lo : ℕ) → Q ≤ P + 1 → lo ≤ 68719476736 → IsNear b Q s a d
    → 68719476737 * (b * s + 4096 * b + 576460752303423488) ≤ 4 * (b * (P * s + a * 68719476736))
    → (lo + 1) * d * 576460752303423488 ≤ (lo + 5) * (b * (P * s + a * 68719476736))
five b s a P Q d lo close most h wide =
    let small : lo + 1 ≤ 68719476737 = omega arith in
    omega (
      arith,
      mul-le-mul_left (lo + 1) h.near,
      mul-le-mul_left ((lo + 1) * b * s) close,
      mul-le-mul_left (b * s + 4096 * b + 576460752303423488) small,
      wide,
    )

pub high_over : (reflect F R A m k P Q d lo : ℕ) → 0 < m → 0 < k → 16777216 ≤ m * R → 16777216 ≤ k * (R + A) → 206158430208 ≤ Q → Q ≤ P + 1
    → lo ≤ 68719476736 → IsNear (1000 * (m * R)) Q (k * R) (k * A) d → reflect * (k * A) * 8192 * (m * F) ≤ lo * d + d
    → ((reflect * F) * (A * 68719476736)) * 68719476736 ≤ (lo + 5) * ((1000 * R) * (P * R + A * 68719476736))
high_over reflect F R A m k P Q d lo pm pk large wide three close most h g =
    let s : ℕ = k * R in
    let a : ℕ = k * A in
    let least : 206158430207 ≤ P = omega arith in
    let enough : 68719476737 * (1000 * (m * R) * s + 4096 * (1000 * (m * R)) + 576460752303423488) ≤ 4 * (1000 * (m * R) * (P * s + a * 68719476736)) =
    room (1000 * (m * R)) s a (P * s + a * 68719476736) (omega (arith, large)) (omega (arith, wide)) (omega (arith, mul-le-mul_left s least)) in
    le_of_mul-le-mul_left {k = m * k} (omega (arith, g, five (1000 * (m * R)) s a P Q d lo close most h enough)) (mul-pos pm pk)

-- one is enough
pub one_over : (reflect F R A P : ℕ) → reflect * F ≤ 1000 * R
    → ((reflect * F) * (A * 68719476736)) * 68719476736 ≤ 68719476736 * ((1000 * R) * (P * R + A * 68719476736))
one_over reflect F R A P most =
    let wide : A * 68719476736 ≤ P * R + A * 68719476736 = omega arith in
    omega (arith, mul-le-mul most wide)
