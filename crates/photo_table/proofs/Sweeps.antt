-- The hull so far, corner after corner.
use Rattle.std.proofs.Common.{ℕ, ◌+◌, ◌-◌, ◌<◌, ◌≤◌, ◌≡◌, min, max, inl, inr, arith, subst}
use Rattle.std.proofs.lemmas.Bool.{cases_lt}
use Rattle.fx_base.specs.Fraction.{Fraction, ◌≤ᶠ◌, lesser, greater}
use Rattle.fx_base.specs.Units.{ticks, millionths, micros_between}
use Rattle.fx_base.proofs.Order.{le_trans_f}
use Rattle.fx_base.proofs.Sums.{ticks_le}
use Rattle.photo_table.specs.Axis.{extreme}
use Rattle.photo_table.specs.Kept.{Rounds}
use Rattle.photo_table.proofs.Between.{millionths_le, millionths_back}
use Rattle.photo_table.proofs.Outward.{outward_below, outward_above}
use Rattle.photo_table.proofs.Corners.{extreme_outward, extreme_within}

-- the two ends hold the values at x
pub record Holds (f g : Fraction → Fraction) (lo hi : ℕ) (x : Fraction) : Type 0 where
  pub low : ticks lo ≤ᶠ f x
  pub high : g x ≤ᶠ ticks hi

-- they hold the values at the ends l and h of the bracket and at those of the first j knots that lie in it, and are within a tick
-- of the extreme values over all of its corners
pub record Swept (k : ℕ → ℕ) (n l h : ℕ) (f g : Fraction → Fraction) (j lo hi : ℕ) : Type 0 where
  pub left : Holds f g lo hi (millionths l)
  pub right : Holds f g lo hi (millionths h)
  pub knots : (a : ℕ) → a < j → l ≤ k a → k a ≤ h → Holds f g lo hi (millionths (k a))
  pub low_near : extreme lesser k n (micros_between l h) f ≤ᶠ ticks (lo + 1)
  pub high_near : ticks (hi - 1) ≤ᶠ extreme greater k n (micros_between l h) g
  pub in_order : lo ≤ hi

holds_wider : (f g : Fraction → Fraction) (lo hi lo' hi' : ℕ) (x : Fraction) → lo' ≤ lo → hi ≤ hi' → Holds f g lo hi x → Holds f g lo' hi' x
holds_wider f g lo hi lo' hi' x p q h = record { low = le_trans_f (ticks_le lo' lo p) h.low; high = le_trans_f h.high (ticks_le hi hi' q) }

near_lesser : (a b : ℕ) (x : Fraction) → x ≤ᶠ ticks (a + 1) → x ≤ᶠ ticks (b + 1) → x ≤ᶠ ticks (min a b + 1)
near_lesser a b x g h = elim (cases_lt a b) [
  | inl l ↦ let e : min a b ≡ a = omega arith in rw e g
  | inr l ↦ let e : min a b ≡ b = omega arith in rw e h
]

near_greater : (a b : ℕ) (x : Fraction) → ticks (a - 1) ≤ᶠ x → ticks (b - 1) ≤ᶠ x → ticks (max a b - 1) ≤ᶠ x
near_greater a b x g h = elim (cases_lt a b) [
  | inl l ↦ let e : max a b ≡ b = omega arith in rw e h
  | inr l ↦ let e : max a b ≡ a = omega arith in rw e g
]

pub swept_start : (k : ℕ → ℕ) (n l h : ℕ) (f g : Fraction → Fraction) (j a b c d lo hi : ℕ)
    → Rounds (f (millionths l)) (g (millionths l)) a b → Rounds (f (millionths h)) (g (millionths h)) c d → lo ≡ min a c → hi ≡ max b d
    → ((i : ℕ) → i < j → k i ≤ l) → Swept k n l h f g j lo hi
swept_start k n l h f g j a b c d lo hi left right e e' before =
    let i = micros_between l h in
    let low = extreme_outward lesser (λ (m x : Fraction). m ≤ᶠ x) outward_below k n i f in
    let high = extreme_outward greater (λ (m x : Fraction). x ≤ᶠ m) outward_above k n i g in
    let p = left.in_order in
    let at_left : Holds f g lo hi (millionths l) = holds_wider f g a b lo hi (millionths l) (omega arith) (omega arith) (record { low = left.low; high = left.high }) in
    record {
      left = at_left;
      right = holds_wider f g c d lo hi (millionths h) (omega arith) (omega arith) (record { low = right.low; high = right.high });
      knots = λ x within from to.
          let q = before x within in
          let same : l ≡ k x = omega arith in
          let P : ℕ → Type 0 = λ z. Holds f g lo hi (millionths z) in subst P same at_left;
      low_near = rw e (near_lesser a c _ (le_trans_f low.low left.low_near) (le_trans_f low.high right.low_near));
      high_near = rw e' (near_greater b d _ (le_trans_f left.high_near high.low) (le_trans_f right.high_near high.high));
      in_order = omega arith;
    }

pub swept_more : (k : ℕ → ℕ) (n l h : ℕ) (f g : Fraction → Fraction) (j a b c d lo hi : ℕ) → Swept k n l h f g j a b
    → j < n → l ≤ k j → k j ≤ h → Rounds (f (millionths (k j))) (g (millionths (k j))) c d → lo ≡ min a c → hi ≡ max b d
    → Swept k n l h f g (j + 1) lo hi
swept_more k n l h f g j a b c d lo hi s within from to new e e' =
    let i = micros_between l h in
    let low = extreme_outward lesser (λ (m x : Fraction). m ≤ᶠ x) outward_below k n i f in
    let high = extreme_outward greater (λ (m x : Fraction). x ≤ᶠ m) outward_above k n i g in
    let p = s.in_order in
    record {
      left = holds_wider f g a b lo hi (millionths l) (omega arith) (omega arith) s.left;
      right = holds_wider f g a b lo hi (millionths h) (omega arith) (omega arith) s.right;
      knots = λ x q from' to'. elim (cases_lt x j) [
        | inl m ↦ holds_wider f g a b lo hi (millionths (k x)) (omega arith) (omega arith) (s.knots x m from' to')
        | inr m ↦ let same : j ≡ x = omega arith in
            let P : ℕ → Type 0 = λ z. Holds f g lo hi (millionths (k z)) in
            subst P same (holds_wider f g c d lo hi (millionths (k j)) (omega arith) (omega arith) (record { low = new.low; high = new.high }))
      ];
      low_near = rw e (near_lesser a c _ s.low_near (le_trans_f (low.knots j within (millionths_le l (k j) from) (millionths_le (k j) h to)) new.low_near));
      high_near = rw e' (near_greater b d _ s.high_near (le_trans_f new.high_near (high.knots j within (millionths_le l (k j) from) (millionths_le (k j) h to))));
      in_order = omega arith;
    }

pub swept_end : (k : ℕ → ℕ) (n l h : ℕ) (f g : Fraction → Fraction) (j lo hi : ℕ) → Swept k n l h f g j lo hi
    → ((i : ℕ) → j ≤ i → i < n → h < k i)
    → Rounds (extreme lesser k n (micros_between l h) f) (extreme greater k n (micros_between l h) g) lo hi
swept_end k n l h f g j lo hi s after =
    let i = micros_between l h in
    let at = λ (a : ℕ) (p : a < n) (from : l ≤ k a) (to : k a ≤ h). knot_held k n l h f g j lo hi s after a p from to in
    record {
      low = extreme_within lesser (λ (m x : Fraction). m ≤ᶠ x) outward_below k n i f (ticks lo)
          (record { low = s.left.low; high = s.right.low; knots = λ a p from to. (at a p (millionths_back l (k a) from) (millionths_back (k a) h to)).low });
      low_near = s.low_near;
      high = extreme_within greater (λ (m x : Fraction). x ≤ᶠ m) outward_above k n i g (ticks hi)
          (record { low = s.left.high; high = s.right.high; knots = λ a p from to. (at a p (millionths_back l (k a) from) (millionths_back (k a) h to)).high });
      high_near = s.high_near;
      in_order = s.in_order;
    }
  where
    knot_held : (k : ℕ → ℕ) (n l h : ℕ) (f g : Fraction → Fraction) (j lo hi : ℕ) → Swept k n l h f g j lo hi
        → ((i : ℕ) → j ≤ i → i < n → h < k i) → (a : ℕ) → a < n → l ≤ k a → k a ≤ h → Holds f g lo hi (millionths (k a))
    knot_held k n l h f g j lo hi s after a p from to = elim (cases_lt a j) [
      | inl m ↦ s.knots a m from to
      | inr m ↦ let q = after a m p in absurd (omega arith)
    ]
