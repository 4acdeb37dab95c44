-- Straight lines in whole numbers. On the way from one knot to the next, A lies ahead and B behind, and the value there is
-- (U A + V B) / (A + B), compared with W.
use Rattle.std.proofs.Common.{ℕ, ◌+◌, ◌-◌, ◌*◌, ◌<◌, ◌≤◌, ◌≡◌, max, inl, inr, arith, ap}
use Rattle.std.proofs.Math.Nat.{mul-le-mul_left, le_of_mul-le-mul_left, mul-pos, mul-sub}
use Rattle.std.proofs.lemmas.Bool.{cases_lt}

-- p A ≤ q B goes on towards the greater B
further : (p q A B A1 B1 : ℕ) → 0 < B1 → p * A1 ≤ q * B1 → B1 * A ≤ B * A1 → p * A ≤ q * B
further p q A B A1 B1 pos h g =
    le_of_mul-le-mul_left {k = B1} (omega (arith, mul-le-mul_left p g, mul-le-mul_left B h)) pos

-- U = V + q + p above the bound W = V + q, and V below it
falling : (V p q A B A1 B1 : ℕ) → 0 < p → 0 < A1 + B1 → (V + q + p) * A1 + V * B1 ≤ (V + q) * (A1 + B1) → B1 * A ≤ B * A1
    → (V + q + p) * A + V * B ≤ (V + q) * (A + B)
falling V p q A B A1 B1 pos way h g =
    let k : p * A1 ≤ q * B1 = omega (arith, h) in
    let some : 0 < B1 = elim (cases_lt 0 B1) [
      | inl l ↦ l
      | inr z ↦ let e : B1 ≡ 0 = omega arith in let a : 0 < A1 = omega arith in
          absurd (omega (arith, mul-pos pos a, ap (λ (z : ℕ). q * z) e))
    ] in
    omega (arith, further p q A B A1 B1 some k g)

-- at most W at two places, so at most W at each place between them
pub line_at_most : (U V W A B A1 B1 A2 B2 : ℕ) → 0 < A1 + B1 → 0 < A2 + B2
    → U * A1 + V * B1 ≤ W * (A1 + B1) → U * A2 + V * B2 ≤ W * (A2 + B2) → B1 * A ≤ B * A1 → B * A2 ≤ B2 * A
    → U * A + V * B ≤ W * (A + B)
line_at_most U V W A B A1 B1 A2 B2 way1 way2 h1 h2 g1 g2 = elim (cases_lt W U) [
  | inl u ↦ elim (cases_lt W V) [
    | inl v ↦ let u' : W + 1 ≤ U = omega arith in let v' : W + 1 ≤ V = omega arith in
        absurd (omega (arith, h1, mul-le-mul_left A1 u', mul-le-mul_left B1 v'))
    | inr v ↦ let e : V + (W - V) ≡ W = omega arith in let f : V + (W - V) + (U - W) ≡ U = omega arith in
        let r = falling V (U - W) (W - V) A B A1 B1 (omega arith) way1 (rw (f, e) h1) g1 in
        rw (f, e) at r
  ]
  | inr u ↦ elim (cases_lt W V) [
    | inl v ↦ let e : U + (W - U) ≡ W = omega arith in let f : U + (W - U) + (V - W) ≡ V = omega arith in
        let r = falling U (V - W) (W - U) B A B2 A2 (omega arith) (omega arith) (rw (f, e) (omega (arith, h2))) (omega (arith, g2)) in
        let s = rw (f, e) at r in omega (arith, s)
    | inr v ↦ omega (arith, mul-le-mul_left A u, mul-le-mul_left B v)
  ]
]

-- at least W at two places, so at least W at each place between them
pub line_at_least : (U V W A B A1 B1 A2 B2 : ℕ) → 0 < A1 + B1 → 0 < A2 + B2
    → W * (A1 + B1) ≤ U * A1 + V * B1 → W * (A2 + B2) ≤ U * A2 + V * B2 → B1 * A ≤ B * A1 → B * A2 ≤ B2 * A
    → W * (A + B) ≤ U * A + V * B
line_at_least U V W A B A1 B1 A2 B2 way1 way2 h1 h2 g1 g2 =
    let r = line_at_most (V + W) (U + W) (U + V) A B A1 B1 A2 B2 way1 way2 (omega (arith, h1)) (omega (arith, h2)) g1 g2 in
    omega (arith, r)

-- ---- the way from knot a to knot b at X / x

-- what lies ahead and what lies behind make up the way
pub whole_way : (a b X x : ℕ) → a < b → a * x ≤ X → X ≤ b * x → (b * x - X) + (X - a * x) ≡ max 1 (b - a) * x
whole_way a b X x p low high =
    let w : max 1 (b - a) ≡ b - a = omega arith in
    let e : a + (b - a) ≡ b = omega arith in
    let f = ap (λ (z : ℕ). z * x) e in
    rw w (omega (arith, f))

-- a place further on has more behind it
pub more_behind : (a X x Y y : ℕ) → X * y ≤ Y * x → (X - a * x) * y ≤ (Y - a * y) * x
more_behind a X x Y y h = omega (arith, mul-sub y X (a * x), mul-sub x Y (a * y))

-- and so more of the way
pub more_of_the_way : (A1 B1 A B x y w : ℕ) → A1 + B1 ≡ w * x → A + B ≡ w * y → B1 * y ≤ B * x → B1 * A ≤ B * A1
more_of_the_way A1 B1 A B x y w e f h =
    omega (arith, mul-le-mul_left w h, ap (λ (z : ℕ). B1 * z) f, ap (λ (z : ℕ). B * z) e)

-- ---- the value u/c, v/d on the line against m/n in cross products, the way being D

pub cross_at_most : (u c v d m n A B D : ℕ) → (u * (d * n)) * A + (v * (c * n)) * B ≤ (m * (c * d)) * D
    → ((u * A) * (d * D) + (v * B) * (c * D)) * n ≤ m * ((c * D) * (d * D))
cross_at_most u c v d m n A B D h = omega (arith, mul-le-mul_left D h)

pub cross_at_most_back : (u c v d m n A B D : ℕ) → 0 < D → ((u * A) * (d * D) + (v * B) * (c * D)) * n ≤ m * ((c * D) * (d * D))
    → (u * (d * n)) * A + (v * (c * n)) * B ≤ (m * (c * d)) * D
cross_at_most_back u c v d m n A B D p h = le_of_mul-le-mul_left {k = D} (omega (arith, h)) p

pub cross_at_least : (u c v d m n A B D : ℕ) → (m * (c * d)) * D ≤ (u * (d * n)) * A + (v * (c * n)) * B
    → m * ((c * D) * (d * D)) ≤ ((u * A) * (d * D) + (v * B) * (c * D)) * n
cross_at_least u c v d m n A B D h = omega (arith, mul-le-mul_left D h)

pub cross_at_least_back : (u c v d m n A B D : ℕ) → 0 < D → m * ((c * D) * (d * D)) ≤ ((u * A) * (d * D) + (v * B) * (c * D)) * n
    → (m * (c * d)) * D ≤ (u * (d * n)) * A + (v * (c * n)) * B
cross_at_least_back u c v d m n A B D p h = le_of_mul-le-mul_left {k = D} (omega (arith, h)) p
