-- The ends of a bracket and the knots in it, and the extreme value over them.
use Rattle.std.proofs.Common.{ℕ, zero, suc, ◌<◌, ◌≡◌, Bool, true, false, if◌then◌else◌, inl, inr, arith, subst, refl}
use Rattle.std.proofs.lemmas.Bool.{cases_lt}
use Rattle.fx_base.specs.Fraction.{Fraction, ◌≤ᶠ◌, at_most}
use Rattle.fx_base.specs.Interval.{Interval, Contains}
use Rattle.fx_base.specs.Units.{millionths}
use Rattle.fx_base.proofs.Order.{le_refl_f, le_trans_f, le_or_le_f, at_most_true, at_most_le, eq_refl_f}
use Rattle.fx_base.proofs.Truth.{both_true}
use Rattle.photo_table.specs.Angles.{is_in}
use Rattle.photo_table.specs.Axis.{extreme}
use Rattle.photo_table.proofs.Between.{IsOn, millionths_le}
use Rattle.photo_table.proofs.Outward.{IsOutward}

pub record AtCorners (k : ℕ → ℕ) (n : ℕ) (i : Interval) (P : Fraction → Type 0) : Type 0 where
  pub low : P i.lo
  pub high : P i.hi
  pub knots : (a : ℕ) → a < n → i.lo ≤ᶠ millionths (k a) → millionths (k a) ≤ᶠ i.hi → P (millionths (k a))

pub corners_of_all : (k : ℕ → ℕ) (n : ℕ) (i : Interval) (P : Fraction → Type 0) → i.lo ≤ᶠ i.hi → ((x : Fraction) → Contains i x → P x) → AtCorners k n i P
corners_of_all k n i P order h = record {
  low = h i.lo (le_refl_f i.lo, order);
  high = h i.hi (order, le_refl_f i.hi);
  knots = λ a p low high. h (millionths (k a)) (low, high);
}

pub map_corners : (k : ℕ → ℕ) (n : ℕ) (i : Interval) (P Q : Fraction → Type 0) → ((x : Fraction) → P x → Q x) → AtCorners k n i P → AtCorners k n i Q
map_corners k n i P Q f h = record {
  low = f i.lo h.low;
  high = f i.hi h.high;
  knots = λ a p low high. f (millionths (k a)) (h.knots a p low high);
}

-- ---- corners on both sides of a place, on its piece

pub record HasBefore (a b : ℕ) (x : Fraction) (P : Fraction → Type 0) : Type 0 where
  pub y : Fraction
  pub on : IsOn a b y
  pub order : y ≤ᶠ x
  pub holds : P y

pub record HasAfter (a b : ℕ) (x : Fraction) (P : Fraction → Type 0) : Type 0 where
  pub y : Fraction
  pub on : IsOn a b y
  pub order : x ≤ᶠ y
  pub holds : P y

pub corner_before : (k : ℕ → ℕ) (n : ℕ) (i : Interval) (P : Fraction → Type 0) (x : Fraction) (a : ℕ) → AtCorners k n i P → Contains i x → suc a < n
    → IsOn (k a) (k (suc a)) x → HasBefore (k a) (k (suc a)) x P
corner_before k n i P x a h inside p on = elim (le_or_le_f i.lo (millionths (k a))) [
  | inl l ↦ let r = on.rise in record {
    y = millionths (k a);
    on = record { rise = on.rise; low = le_refl_f (millionths (k a)); high = millionths_le (k a) (k (suc a)) (omega arith) };
    order = on.low;
    holds = h.knots a (omega arith) l (le_trans_f on.low inside.1);
  }
  | inr g ↦ record {
    y = i.lo;
    on = record { rise = on.rise; low = g; high = le_trans_f inside.0 on.high };
    order = inside.0;
    holds = h.low;
  }
]

pub corner_after : (k : ℕ → ℕ) (n : ℕ) (i : Interval) (P : Fraction → Type 0) (x : Fraction) (a : ℕ) → AtCorners k n i P → Contains i x → suc a < n
    → IsOn (k a) (k (suc a)) x → HasAfter (k a) (k (suc a)) x P
corner_after k n i P x a h inside p on = elim (le_or_le_f (millionths (k (suc a))) i.hi) [
  | inl l ↦ let r = on.rise in record {
    y = millionths (k (suc a));
    on = record { rise = on.rise; low = millionths_le (k a) (k (suc a)) (omega arith); high = le_refl_f (millionths (k (suc a))) };
    order = on.high;
    holds = h.knots (suc a) p (le_trans_f inside.0 on.high) l;
  }
  | inr g ↦ record {
    y = i.hi;
    on = record { rise = on.rise; low = le_trans_f on.low inside.1; high = g };
    order = inside.1;
    holds = h.high;
  }
]

-- ---- the extreme value

pub in_contains : (i : Interval) (x : Fraction) → is_in i x ≡ true → Contains i x
in_contains i x e =
    let t = both_true (at_most i.lo x) (at_most x i.hi) e in
    (at_most_le i.lo x t.0, at_most_le x i.hi t.1)

pub contains_in : (i : Interval) (x : Fraction) → i.lo ≤ᶠ x → x ≤ᶠ i.hi → is_in i x ≡ true
contains_in i x g h = let a = at_most_true g in let b = at_most_true h in rw (a, b) refl

choice_rest : (pick : Fraction → Fraction → Fraction) (R : Fraction → Fraction → Type 0) → IsOutward pick R → (b : Bool) (r v : Fraction)
    → R (if b then pick r v else r) r
choice_rest pick R o true r v = o.left r v
choice_rest pick R o false r v = o.same (eq_refl_f r)

choice_new : (pick : Fraction → Fraction → Fraction) (R : Fraction → Fraction → Type 0) → IsOutward pick R → (b : Bool) (r v : Fraction) → b ≡ true
    → R (if b then pick r v else r) v
choice_new pick R o true r v e = o.right r v
choice_new pick R o false r v e = cc

choice_within : (pick : Fraction → Fraction → Fraction) (R : Fraction → Fraction → Type 0) → IsOutward pick R → (b : Bool) (r v m : Fraction)
    → R m r → (b ≡ true → R m v) → R m (if b then pick r v else r)
choice_within pick R o true r v m g h = o.both r v g (h refl)
choice_within pick R o false r v m g h = g

-- it is outside of the value at each corner
pub extreme_outward : (pick : Fraction → Fraction → Fraction) (R : Fraction → Fraction → Type 0) → IsOutward pick R
    → (k : ℕ → ℕ) (n : ℕ) (i : Interval) (f : Fraction → Fraction) → AtCorners k n i (λ x. R (extreme pick k n i f) (f x))
unfolding extreme
extreme_outward pick R o k zero i f = record {
  low = o.left (f i.lo) (f i.hi);
  high = o.right (f i.lo) (f i.hi);
  knots = λ a p low high. absurd (omega arith);
}
extreme_outward pick R o k (suc n) i f =
    let before = extreme_outward pick R o k n i f in
    let b = is_in i (millionths (k n)) in
    let rest = choice_rest pick R o b (extreme pick k n i f) (f (millionths (k n))) in
    record {
      low = o.trans rest before.low;
      high = o.trans rest before.high;
      knots = λ a p low high. elim (cases_lt a n) [
        | inl l ↦ o.trans rest (before.knots a l low high)
        | inr g ↦ let e : n ≡ a = omega arith in
            let P : ℕ → Type 0 = λ z. R (if b then pick (extreme pick k n i f) (f (millionths (k n))) else extreme pick k n i f) (f (millionths (k z))) in
            let Q : ℕ → Type 0 = λ z. is_in i (millionths (k z)) ≡ true in
            let e' : a ≡ n = omega arith in
            subst P e (choice_new pick R o b (extreme pick k n i f) (f (millionths (k n))) (subst Q e' (contains_in i (millionths (k a)) low high)))
      ];
    }

-- and nothing that is outside of each of them is further in
pub extreme_within : (pick : Fraction → Fraction → Fraction) (R : Fraction → Fraction → Type 0) → IsOutward pick R
    → (k : ℕ → ℕ) (n : ℕ) (i : Interval) (f : Fraction → Fraction) (m : Fraction) → AtCorners k n i (λ x. R m (f x)) → R m (extreme pick k n i f)
unfolding extreme
extreme_within pick R o k zero i f m h = o.both (f i.lo) (f i.hi) h.low h.high
extreme_within pick R o k (suc n) i f m h =
    choice_within pick R o (is_in i (millionths (k n))) (extreme pick k n i f) (f (millionths (k n))) m
    (extreme_within pick R o k n i f m (record { low = h.low; high = h.high; knots = λ a p low high. h.knots a (omega arith) low high }))
    (λ e. let c = in_contains i (millionths (k n)) e in h.knots n (omega arith) c.0 c.1)
