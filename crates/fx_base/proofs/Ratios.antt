-- Quotients, the lesser and the greater of two fractions, and fractions of whole numbers.
use Rattle.std.proofs.Common.{ℕ, zero, suc, ◌+◌, ◌*◌, ◌<◌, ◌≤◌, ◌≡◌, Bool, true, false, arith, refl, subst, if◌then◌else◌}
use Rattle.std.proofs.Math.Nat.{mul-pos, mul-le-mul}
use Rattle.fx_base.specs.Fraction.{Fraction, ◌≤ᶠ◌, at_most, ratio, whole, lesser, greater, ◌+ᶠ◌, ◌*ᶠ◌, ◌/ᶠ◌}
use Rattle.fx_base.proofs.Order.{le_refl_f, le_trans_f, le_of_lt_f, at_most_le, at_most_false, mul_cancel_f, mul_le_f}

-- ---- n / d

pub ratio_num : (n d : ℕ) → 0 < d → (ratio n d).num ≡ n
unfolding ratio
ratio_num n zero p = absurd (omega arith)
ratio_num n (suc d) p = refl

pub ratio_den : (n d : ℕ) → 0 < d → (ratio n d).den ≡ d
unfolding ratio
ratio_den n zero p = absurd (omega arith)
ratio_den n (suc d) p = refl

pub ratio_le : (n d : ℕ) (x : Fraction) → 0 < d → n * x.den ≤ x.num * d → ratio n d ≤ᶠ x
ratio_le n d x p h = record { cross = rw (ratio_num n d p, ratio_den n d p) h }

pub le_ratio : (n d : ℕ) (x : Fraction) → 0 < d → x.num * d ≤ n * x.den → x ≤ᶠ ratio n d
le_ratio n d x p h = record { cross = rw (ratio_num n d p, ratio_den n d p) h }

pub ratio_le_back : (n d : ℕ) (x : Fraction) → 0 < d → ratio n d ≤ᶠ x → n * x.den ≤ x.num * d
ratio_le_back n d x p h = rw (ratio_num n d p, ratio_den n d p) at h.cross

pub le_ratio_back : (n d : ℕ) (x : Fraction) → 0 < d → x ≤ᶠ ratio n d → x.num * d ≤ n * x.den
le_ratio_back n d x p h = rw (ratio_num n d p, ratio_den n d p) at h.cross

pub ratio_le_ratio : (n d m e : ℕ) → 0 < d → 0 < e → n * e ≤ m * d → ratio n d ≤ᶠ ratio m e
ratio_le_ratio n d m e p q h = record { cross = rw (ratio_num n d p, ratio_den n d p, ratio_num m e q, ratio_den m e q) h }

pub ratio_le_ratio_back : (n d m e : ℕ) → 0 < d → 0 < e → ratio n d ≤ᶠ ratio m e → n * e ≤ m * d
ratio_le_ratio_back n d m e p q h = rw (ratio_num n d p, ratio_den n d p, ratio_num m e q, ratio_den m e q) at h.cross

-- ---- a / b

-- the quotient by what isn't 0, opened
pub over_num : (a b : Fraction) → 0 < b.num → (a /ᶠ b).num ≡ a.num * b.den
unfolding ◌/ᶠ◌
over_num a b p = ratio_num (a.num * b.den) (a.den * b.num) (mul-pos a.positive p)

pub over_den : (a b : Fraction) → 0 < b.num → (a /ᶠ b).den ≡ a.den * b.num
unfolding ◌/ᶠ◌
over_den a b p = ratio_den (a.num * b.den) (a.den * b.num) (mul-pos a.positive p)

cross_over : (a A b B c C d D : ℕ) → a * C ≤ c * A → d * B ≤ b * D → (a * B) * (C * d) ≤ (c * D) * (A * b)
cross_over a A b B c C d D g h = omega (arith, mul-le-mul {n₁ = a * C} {m₁ = d * B} {n₂ = c * A} {m₂ = b * D} g h)

pub positive_above : {a b : Fraction} → 0 < a.num → a ≤ᶠ b → 0 < b.num
positive_above {a} {b} p h = above a.num a.den b.num b.den p b.positive h.cross
  where
    above : (a A b B : ℕ) → 0 < a → 0 < B → a * B ≤ b * A → 0 < b
    above a A zero B p q h = let r : 0 < a * B = mul-pos p q in absurd (omega arith)
    above a A (suc b) B p q h = omega arith

-- a quotient grows with what is divided, and falls with the divisor
pub over_le : {a b c d : Fraction} → 0 < d.num → a ≤ᶠ c → d ≤ᶠ b → (a /ᶠ b) ≤ᶠ (c /ᶠ d)
over_le {a} {b} {c} {d} p g h = let q : 0 < b.num = positive_above p h in
    record {
      cross = rw (over_num a b q, over_den a b q, over_num c d p, over_den c d p)
          (cross_over a.num a.den b.num b.den c.num c.den d.num d.den g.cross h.cross);
    }

pub over_mul_le : (a b : Fraction) → 0 < b.num → ((a /ᶠ b) *ᶠ b) ≤ᶠ a
unfolding ◌*ᶠ◌
over_mul_le a b p = record { cross = rw (over_num a b p, over_den a b p) (omega arith) }

pub le_over_mul : (a b : Fraction) → 0 < b.num → a ≤ᶠ ((a /ᶠ b) *ᶠ b)
unfolding ◌*ᶠ◌
le_over_mul a b p = record { cross = rw (over_num a b p, over_den a b p) (omega arith) }

-- q is at most a / b exactly where q b is at most a
pub le_over : (a b q : Fraction) → 0 < b.num → (q *ᶠ b) ≤ᶠ a → q ≤ᶠ (a /ᶠ b)
le_over a b q p h = mul_cancel_f q (a /ᶠ b) b p (le_trans_f h (le_over_mul a b p))

pub over_below : (a b q : Fraction) → 0 < b.num → a ≤ᶠ (q *ᶠ b) → (a /ᶠ b) ≤ᶠ q
over_below a b q p h = mul_cancel_f (a /ᶠ b) q b p (le_trans_f (over_mul_le a b p) h)

pub le_over_back : (a b : Fraction) {q : Fraction} → 0 < b.num → q ≤ᶠ (a /ᶠ b) → (q *ᶠ b) ≤ᶠ a
le_over_back a b p h = le_trans_f (mul_le_f h (le_refl_f b)) (over_mul_le a b p)

pub over_below_back : (a b : Fraction) {q : Fraction} → 0 < b.num → (a /ᶠ b) ≤ᶠ q → a ≤ᶠ (q *ᶠ b)
over_below_back a b p h = le_trans_f (le_over_mul a b p) (mul_le_f h (le_refl_f b))

-- ---- a / b, where b may be 0

pub none_by_nothing : (n : ℕ) (c : Fraction) → ratio n 0 ≤ᶠ c
unfolding ratio
none_by_nothing n c = record { cross = omega arith }

pub by_nothing : (a b c : Fraction) → b.num ≡ 0 → (a /ᶠ b) ≤ᶠ c
unfolding ◌/ᶠ◌
by_nothing a b c e =
    let f : 0 ≡ a.den * b.num = rw e (omega arith) in
    let P : ℕ → Type 0 = λ d. ratio (a.num * b.den) d ≤ᶠ c in
    subst P f (none_by_nothing (a.num * b.den) c)

over_at : (a b c d : Fraction) (n : ℕ) → d.num ≡ n → a ≤ᶠ c → d ≤ᶠ b → (d.num ≡ 0 → b.num ≡ 0) → (a /ᶠ b) ≤ᶠ (c /ᶠ d)
over_at a b c d zero e g h z = by_nothing a b (c /ᶠ d) (z e)
over_at a b c d (suc n) e g h z = over_le (omega (arith, e)) g h

-- a quotient grows so also where the greater divisor is 0 together with the lesser one
pub over_le_any : (a b c d : Fraction) → a ≤ᶠ c → d ≤ᶠ b → (d.num ≡ 0 → b.num ≡ 0) → (a /ᶠ b) ≤ᶠ (c /ᶠ d)
over_le_any a b c d g h z = over_at a b c d d.num refl g h z

-- ---- the lesser and the greater

lesser_at : (a b c : Fraction) (t : Bool) → (t ≡ true → c ≤ᶠ a) → (t ≡ false → c ≤ᶠ b) → c ≤ᶠ (if t then a else b)
lesser_at a b c true g h = g refl
lesser_at a b c false g h = h refl

choice_below : (a b c : Fraction) (t : Bool) → (t ≡ true → a ≤ᶠ c) → (t ≡ false → b ≤ᶠ c) → (if t then a else b) ≤ᶠ c
choice_below a b c true g h = g refl
choice_below a b c false g h = h refl

pub lesser_left : (a b : Fraction) → lesser a b ≤ᶠ a
unfolding lesser
lesser_left a b = choice_below a b a (at_most a b) (λ e. le_refl_f a) (λ e. le_of_lt_f (at_most_false a b e))

pub lesser_right : (a b : Fraction) → lesser a b ≤ᶠ b
unfolding lesser
lesser_right a b = choice_below a b b (at_most a b) (λ e. at_most_le a b e) (λ e. le_refl_f b)

pub le_lesser : (a b : Fraction) {c : Fraction} → c ≤ᶠ a → c ≤ᶠ b → c ≤ᶠ lesser a b
unfolding lesser
le_lesser a b {c} g h = lesser_at a b c (at_most a b) (λ e. g) (λ e. h)

pub greater_left : (a b : Fraction) → a ≤ᶠ greater a b
unfolding greater
greater_left a b = lesser_at b a a (at_most a b) (λ e. at_most_le a b e) (λ e. le_refl_f a)

pub greater_right : (a b : Fraction) → b ≤ᶠ greater a b
unfolding greater
greater_right a b = lesser_at b a b (at_most a b) (λ e. le_refl_f b) (λ e. le_of_lt_f (at_most_false a b e))

pub greater_le : (a b : Fraction) {c : Fraction} → a ≤ᶠ c → b ≤ᶠ c → greater a b ≤ᶠ c
unfolding greater
greater_le a b {c} g h = choice_below b a c (at_most a b) (λ e. h) (λ e. g)

pub lesser_le : {a b c d : Fraction} → a ≤ᶠ c → b ≤ᶠ d → lesser a b ≤ᶠ lesser c d
lesser_le {a} {b} {c} {d} g h = le_lesser c d (le_trans_f (lesser_left a b) g) (le_trans_f (lesser_right a b) h)

-- ---- whole numbers

pub whole_le : (m n : ℕ) → m ≤ n → whole m ≤ᶠ whole n
unfolding whole
whole_le m n h = record { cross = omega arith }

pub whole_back : (m n : ℕ) → whole m ≤ᶠ whole n → m ≤ n
unfolding whole
whole_back m n h = let g = h.cross in omega arith

pub whole_split : (m n : ℕ) → whole (m + n) ≤ᶠ (whole m +ᶠ whole n)
unfolding whole ◌+ᶠ◌
whole_split m n = record { cross = omega arith }

pub whole_join : (m n : ℕ) → (whole m +ᶠ whole n) ≤ᶠ whole (m + n)
unfolding whole ◌+ᶠ◌
whole_join m n = record { cross = omega arith }

pub whole_times_split : (m n : ℕ) → whole (m * n) ≤ᶠ (whole m *ᶠ whole n)
unfolding whole ◌*ᶠ◌
whole_times_split m n = record { cross = omega arith }

pub whole_times_join : (m n : ℕ) → (whole m *ᶠ whole n) ≤ᶠ whole (m * n)
unfolding whole ◌*ᶠ◌
whole_times_join m n = record { cross = omega arith }
