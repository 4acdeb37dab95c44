-- The laws of fractions in their order. An equation of fractions is said as two orders, or by ≈ᶠ.
use Rattle.std.proofs.Common.{◌*◌, ◌<◌, ◌≡◌, ◌⊎◌, inl, inr, true, false, arith, refl, sym}
use Rattle.std.proofs.Math.Nat.{mul-pos, mul-le-mul_left, mul-sub}
use Rattle.std.proofs.lemmas.Bool.{cases_lt}
use Rattle.std.proofs.lemmas.Bool.Decides.{nat_tests}
use Rattle.fx_base.specs.Fraction.{Fraction, ◌≤ᶠ◌, ◌<ᶠ◌, ◌≈ᶠ◌, at_most, whole, ◌+ᶠ◌, ◌-ᶠ◌, ◌*ᶠ◌}
use Rattle.fx_base.proofs.Cross.{cross_trans, cross_trans_lt_le, cross_trans_le_lt, cross_add, cross_add_lt, cross_mul, cross_mul_lt, cross_cancel, cross_mul_cancel, cross_sub, cross_sub_back, cross_below_sub}

-- ---- the order

pub le_refl_f : (a : Fraction) → a ≤ᶠ a
le_refl_f a = record { cross = omega arith }

pub le_trans_f : {a b c : Fraction} → a ≤ᶠ b → b ≤ᶠ c → a ≤ᶠ c
le_trans_f {a} {b} {c} g h = record { cross = cross_trans a.num a.den b.num b.den c.num c.den b.positive g.cross h.cross }

pub lt_le_trans_f : {a b c : Fraction} → a <ᶠ b → b ≤ᶠ c → a <ᶠ c
lt_le_trans_f {a} {b} {c} g h = record { cross = cross_trans_lt_le a.num a.den b.num b.den c.num c.den c.positive g.cross h.cross }

pub le_lt_trans_f : {a b c : Fraction} → a ≤ᶠ b → b <ᶠ c → a <ᶠ c
le_lt_trans_f {a} {b} {c} g h = record { cross = cross_trans_le_lt a.num a.den b.num b.den c.num c.den a.positive g.cross h.cross }

pub le_of_lt_f : {a b : Fraction} → a <ᶠ b → a ≤ᶠ b
le_of_lt_f h = let g = h.cross in record { cross = omega arith }

pub lt_trans_f : {a b c : Fraction} → a <ᶠ b → b <ᶠ c → a <ᶠ c
lt_trans_f g h = lt_le_trans_f g (le_of_lt_f h)

pub lt_irrefl_f : {a : Fraction} → a <ᶠ a → ⊥
lt_irrefl_f h = let g = h.cross in absurd (omega arith)

pub le_lt_absurd_f : {a b : Fraction} → a ≤ᶠ b → b <ᶠ a → ⊥
le_lt_absurd_f g h = lt_irrefl_f (le_lt_trans_f g h)

pub lt_or_le_f : (a b : Fraction) → (a <ᶠ b) ⊎ (b ≤ᶠ a)
lt_or_le_f a b = elim (cases_lt (a.num * b.den) (b.num * a.den)) [
  | inl l ↦ inl (record { cross = l })
  | inr g ↦ inr (record { cross = g })
]

pub le_or_le_f : (a b : Fraction) → (a ≤ᶠ b) ⊎ (b ≤ᶠ a)
le_or_le_f a b = elim (lt_or_le_f a b) [ inl l ↦ inl (le_of_lt_f l) | inr g ↦ inr g ]

pub zero_le_f : (a : Fraction) → whole 0 ≤ᶠ a
unfolding whole
zero_le_f a = record { cross = omega arith }

-- the test decides the order
pub at_most_true : {a b : Fraction} → a ≤ᶠ b → at_most a b ≡ true
at_most_true h = let g = h.cross in grind (arith, nat_tests)

pub at_most_le : (a b : Fraction) → at_most a b ≡ true → a ≤ᶠ b
at_most_le a b h = record { cross = grind (arith, nat_tests) }

pub at_most_false : (a b : Fraction) → at_most a b ≡ false → b <ᶠ a
at_most_false a b h = record { cross = grind (arith, nat_tests) }

pub at_most_not : {a b : Fraction} → b <ᶠ a → at_most a b ≡ false
at_most_not h = let g = h.cross in grind (arith, nat_tests)

-- ---- equal fractions

pub eq_refl_f : (a : Fraction) → a ≈ᶠ a
eq_refl_f a = record { cross = refl }

pub eq_sym_f : {a b : Fraction} → a ≈ᶠ b → b ≈ᶠ a
eq_sym_f h = record { cross = sym h.cross }

pub le_of_eq_f : {a b : Fraction} → a ≈ᶠ b → a ≤ᶠ b
le_of_eq_f h = let g = h.cross in record { cross = omega arith }

pub ge_of_eq_f : {a b : Fraction} → a ≈ᶠ b → b ≤ᶠ a
ge_of_eq_f h = let g = h.cross in record { cross = omega arith }

pub eq_of_le_f : {a b : Fraction} → a ≤ᶠ b → b ≤ᶠ a → a ≈ᶠ b
eq_of_le_f g h = let i = g.cross in let j = h.cross in record { cross = omega arith }

pub eq_trans_f : {a b c : Fraction} → a ≈ᶠ b → b ≈ᶠ c → a ≈ᶠ c
eq_trans_f g h = eq_of_le_f (le_trans_f (le_of_eq_f g) (le_of_eq_f h)) (le_trans_f (ge_of_eq_f h) (ge_of_eq_f g))

-- ---- sums

pub add_le_f : {a b c d : Fraction} → a ≤ᶠ c → b ≤ᶠ d → (a +ᶠ b) ≤ᶠ (c +ᶠ d)
unfolding ◌+ᶠ◌
add_le_f {a} {b} {c} {d} g h =
    record { cross = cross_add a.num a.den b.num b.den c.num c.den d.num d.den g.cross h.cross }

pub add_lt_f : {a b c d : Fraction} → a <ᶠ c → b ≤ᶠ d → (a +ᶠ b) <ᶠ (c +ᶠ d)
unfolding ◌+ᶠ◌
add_lt_f {a} {b} {c} {d} g h =
    record { cross = cross_add_lt a.num a.den b.num b.den c.num c.den d.num d.den (mul-pos b.positive d.positive) g.cross h.cross }

pub add_comm_f : (a b : Fraction) → (a +ᶠ b) ≤ᶠ (b +ᶠ a)
unfolding ◌+ᶠ◌
add_comm_f a b = record { cross = omega arith }

-- (a + b) + c is a + (b + c)
pub add_right_f : (a b c : Fraction) → ((a +ᶠ b) +ᶠ c) ≤ᶠ (a +ᶠ (b +ᶠ c))
unfolding ◌+ᶠ◌
add_right_f a b c = record { cross = omega arith }

pub add_left_f : (a b c : Fraction) → (a +ᶠ (b +ᶠ c)) ≤ᶠ ((a +ᶠ b) +ᶠ c)
unfolding ◌+ᶠ◌
add_left_f a b c = record { cross = omega arith }

-- (a + b) + c is (a + c) + b
pub add_swap_f : (a b c : Fraction) → ((a +ᶠ b) +ᶠ c) ≤ᶠ ((a +ᶠ c) +ᶠ b)
unfolding ◌+ᶠ◌
add_swap_f a b c = record { cross = omega arith }

-- (a + b) + (c + d) is (a + c) + (b + d)
pub add_pairs_f : (a b c d : Fraction) → ((a +ᶠ b) +ᶠ (c +ᶠ d)) ≤ᶠ ((a +ᶠ c) +ᶠ (b +ᶠ d))
unfolding ◌+ᶠ◌
add_pairs_f a b c d = record { cross = omega arith }

pub le_add_f : (a b : Fraction) → a ≤ᶠ (a +ᶠ b)
unfolding ◌+ᶠ◌
le_add_f a b = record { cross = omega arith }

pub le_add_left_f : (a b : Fraction) → b ≤ᶠ (a +ᶠ b)
unfolding ◌+ᶠ◌
le_add_left_f a b = record { cross = omega arith }

pub add_zero_f : (a : Fraction) → (a +ᶠ whole 0) ≤ᶠ a
unfolding ◌+ᶠ◌ whole
add_zero_f a = record { cross = omega arith }

pub zero_add_f : (a : Fraction) → (whole 0 +ᶠ a) ≤ᶠ a
unfolding ◌+ᶠ◌ whole
zero_add_f a = record { cross = omega arith }

pub add_cancel_f : (a b c : Fraction) → (a +ᶠ c) ≤ᶠ (b +ᶠ c) → a ≤ᶠ b
unfolding ◌+ᶠ◌
add_cancel_f a b c h = record { cross = cross_cancel a.num a.den b.num b.den c.num c.den c.positive h.cross }

-- ---- differences: a - b is at most c exactly where a is at most c + b

pub sub_le_f : (a b : Fraction) {c : Fraction} → a ≤ᶠ (c +ᶠ b) → (a -ᶠ b) ≤ᶠ c
unfolding ◌+ᶠ◌ ◌-ᶠ◌
sub_le_f a b {c} h = record { cross = cross_sub a.num a.den b.num b.den c.num c.den h.cross }

pub sub_back_f : (a b : Fraction) {c : Fraction} → (a -ᶠ b) ≤ᶠ c → a ≤ᶠ (c +ᶠ b)
unfolding ◌+ᶠ◌ ◌-ᶠ◌
sub_back_f a b {c} h = record { cross = cross_sub_back a.num a.den b.num b.den c.num c.den h.cross }

pub le_sub_f : (a b : Fraction) {c : Fraction} → (c +ᶠ b) ≤ᶠ a → c ≤ᶠ (a -ᶠ b)
unfolding ◌+ᶠ◌ ◌-ᶠ◌
le_sub_f a b {c} h = record { cross = cross_below_sub a.num a.den b.num b.den c.num c.den h.cross }

pub le_sub_add_f : (a b : Fraction) → a ≤ᶠ ((a -ᶠ b) +ᶠ b)
le_sub_add_f a b = sub_back_f a b (le_refl_f (a -ᶠ b))

-- where nothing is cut, the difference and what was taken away give back the whole
pub sub_add_f : (a b : Fraction) → b ≤ᶠ a → ((a -ᶠ b) +ᶠ b) ≤ᶠ a
unfolding ◌+ᶠ◌ ◌-ᶠ◌
sub_add_f a b h = let g = h.cross in
    record { cross = omega (arith, mul-sub b.den (a.num * b.den) (b.num * a.den), mul-sub (a.den * b.den) (a.num * b.den) (b.num * a.den), mul-le-mul_left (a.den * b.den) g) }

pub sub_le_self_f : (a b : Fraction) → (a -ᶠ b) ≤ᶠ a
sub_le_self_f a b = sub_le_f a b (le_add_f a b)

pub sub_mono_f : {a b c d : Fraction} → a ≤ᶠ c → d ≤ᶠ b → (a -ᶠ b) ≤ᶠ (c -ᶠ d)
sub_mono_f {a} {b} {c} {d} g h = sub_le_f a b (le_trans_f g (le_trans_f (le_sub_add_f c d) (add_le_f (le_refl_f (c -ᶠ d)) h)))

-- ---- products

pub mul_le_f : {a b c d : Fraction} → a ≤ᶠ c → b ≤ᶠ d → (a *ᶠ b) ≤ᶠ (c *ᶠ d)
unfolding ◌*ᶠ◌
mul_le_f {a} {b} {c} {d} g h =
    record { cross = cross_mul a.num a.den b.num b.den c.num c.den d.num d.den g.cross h.cross }

pub mul_lt_f : {a b c d : Fraction} → 0 < b.num → a <ᶠ c → b ≤ᶠ d → (a *ᶠ b) <ᶠ (c *ᶠ d)
unfolding ◌*ᶠ◌
mul_lt_f {a} {b} {c} {d} p g h =
    record { cross = cross_mul_lt a.num a.den b.num b.den c.num c.den d.num d.den (mul-pos p d.positive) g.cross h.cross }

pub mul_cancel_f : (a b c : Fraction) → 0 < c.num → (a *ᶠ c) ≤ᶠ (b *ᶠ c) → a ≤ᶠ b
unfolding ◌*ᶠ◌
mul_cancel_f a b c p h = record { cross = cross_mul_cancel a.num a.den b.num b.den c.num c.den p c.positive h.cross }

pub mul_comm_f : (a b : Fraction) → (a *ᶠ b) ≤ᶠ (b *ᶠ a)
unfolding ◌*ᶠ◌
mul_comm_f a b = record { cross = omega arith }

pub mul_right_f : (a b c : Fraction) → ((a *ᶠ b) *ᶠ c) ≤ᶠ (a *ᶠ (b *ᶠ c))
unfolding ◌*ᶠ◌
mul_right_f a b c = record { cross = omega arith }

pub mul_left_f : (a b c : Fraction) → (a *ᶠ (b *ᶠ c)) ≤ᶠ ((a *ᶠ b) *ᶠ c)
unfolding ◌*ᶠ◌
mul_left_f a b c = record { cross = omega arith }

pub mul_swap_f : (a b c : Fraction) → ((a *ᶠ b) *ᶠ c) ≤ᶠ ((a *ᶠ c) *ᶠ b)
unfolding ◌*ᶠ◌
mul_swap_f a b c = record { cross = omega arith }

pub mul_one_f : (a : Fraction) → (a *ᶠ whole 1) ≤ᶠ a
unfolding ◌*ᶠ◌ whole
mul_one_f a = record { cross = omega arith }

pub le_mul_one_f : (a : Fraction) → a ≤ᶠ (a *ᶠ whole 1)
unfolding ◌*ᶠ◌ whole
le_mul_one_f a = record { cross = omega arith }

pub one_mul_f : (a : Fraction) → (whole 1 *ᶠ a) ≤ᶠ a
unfolding ◌*ᶠ◌ whole
one_mul_f a = record { cross = omega arith }

pub le_one_mul_f : (a : Fraction) → a ≤ᶠ (whole 1 *ᶠ a)
unfolding ◌*ᶠ◌ whole
le_one_mul_f a = record { cross = omega arith }

-- a product distributes over sums and differences
pub mul_add_f : (a b c : Fraction) → (a *ᶠ (b +ᶠ c)) ≤ᶠ ((a *ᶠ b) +ᶠ (a *ᶠ c))
unfolding ◌+ᶠ◌ ◌*ᶠ◌
mul_add_f a b c = record { cross = omega arith }

pub add_mul_f : (a b c : Fraction) → ((a *ᶠ b) +ᶠ (a *ᶠ c)) ≤ᶠ (a *ᶠ (b +ᶠ c))
unfolding ◌+ᶠ◌ ◌*ᶠ◌
add_mul_f a b c = record { cross = omega arith }

pub mul_add_right_f : (a b c : Fraction) → ((a +ᶠ b) *ᶠ c) ≤ᶠ ((a *ᶠ c) +ᶠ (b *ᶠ c))
unfolding ◌+ᶠ◌ ◌*ᶠ◌
mul_add_right_f a b c = record { cross = omega arith }

pub add_mul_right_f : (a b c : Fraction) → ((a *ᶠ c) +ᶠ (b *ᶠ c)) ≤ᶠ ((a +ᶠ b) *ᶠ c)
unfolding ◌+ᶠ◌ ◌*ᶠ◌
add_mul_right_f a b c = record { cross = omega arith }

pub mul_zero_f : (a : Fraction) → (a *ᶠ whole 0) ≤ᶠ whole 0
unfolding ◌*ᶠ◌ whole
mul_zero_f a = record { cross = omega arith }

pub mul_sub_f : (a b c : Fraction) → (a *ᶠ (b -ᶠ c)) ≤ᶠ ((a *ᶠ b) -ᶠ (a *ᶠ c))
mul_sub_f a b c = elim (le_or_le_f c b) [
  | inl l ↦ le_sub_f (a *ᶠ b) (a *ᶠ c) (le_trans_f (add_mul_f a (b -ᶠ c) c) (mul_le_f (le_refl_f a) (sub_add_f b c l)))
  | inr g ↦ le_trans_f (mul_le_f (le_refl_f a) (sub_le_f b c (le_trans_f g (le_add_left_f (whole 0) c))))
      (le_trans_f (mul_zero_f a) (zero_le_f ((a *ᶠ b) -ᶠ (a *ᶠ c))))
]

pub sub_mul_f : (a b c : Fraction) → ((a *ᶠ b) -ᶠ (a *ᶠ c)) ≤ᶠ (a *ᶠ (b -ᶠ c))
sub_mul_f a b c = sub_le_f (a *ᶠ b) (a *ᶠ c)
    (le_trans_f (mul_le_f (le_refl_f a) (le_sub_add_f b c)) (mul_add_f a (b -ᶠ c) c))
