-- Meeting and nesting.
use Rattle.std.proofs.Common.{ℕ, zero, suc, ◌+◌, ◌-◌, ◌*◌, ◌≤◌, ◌≡◌, ◌⊎◌, inl, inr, arith, subst}
use Rattle.fx_base.specs.Fraction.{Fraction, ◌≤ᶠ◌, ◌+ᶠ◌, whole}
use Rattle.fx_base.specs.Interval.{Interval, Meets, LiesIn, outward, turned, MeetsOnCircle}
use Rattle.fx_base.specs.Nesting.{IsNested}
use Rattle.fx_base.proofs.Order.{le_refl_f, le_trans_f, add_le_f, add_swap_f, sub_le_f}

-- an interval at most e wide that meets another lies within that other moved outward by e
pub near_by_meeting : (a b : Interval) (e : Fraction) → a.hi ≤ᶠ (a.lo +ᶠ e) → Meets a b → LiesIn a (outward e b)
near_by_meeting a b e narrow meets = record {
  lower = sub_le_f b.lo e (le_trans_f meets.below narrow);
  upper = le_trans_f narrow (add_le_f meets.above (le_refl_f e));
}

turned_narrow : (a : Interval) (e : Fraction) (turns : ℕ) → a.hi ≤ᶠ (a.lo +ᶠ e) → (turned turns a).hi ≤ᶠ ((turned turns a).lo +ᶠ e)
turned_narrow a e turns narrow =
    le_trans_f (add_le_f narrow (le_refl_f (whole (360 * turns)))) (add_swap_f a.lo e (whole (360 * turns)))

pub near_by_meeting_on_circle : (a b : Interval) (e : Fraction) → a.hi ≤ᶠ (a.lo +ᶠ e) → MeetsOnCircle a b →
    (turns : ℕ) × (LiesIn (turned turns a) (outward e b) ⊎ LiesIn a (outward e (turned turns b)))
near_by_meeting_on_circle a b e narrow (turns, inl m) =
    (turns, inl (near_by_meeting (turned turns a) b e (turned_narrow a e turns narrow) m))
near_by_meeting_on_circle a b e narrow (turns, inr m) = (turns, inr (near_by_meeting a (turned turns b) e narrow m))

-- ---- intervals

pub lies_in_refl : (a : Interval) → LiesIn a a
lies_in_refl a = record { lower = le_refl_f a.lo; upper = le_refl_f a.hi }

pub lies_in_trans : {a b c : Interval} → LiesIn a b → LiesIn b c → LiesIn a c
lies_in_trans g h = record { lower = le_trans_f h.lower g.lower; upper = le_trans_f g.upper h.upper }

pub meets_wider : {a b c : Interval} → Meets a b → LiesIn b c → Meets a c
meets_wider g h = record { above = le_trans_f g.above h.upper; below = le_trans_f h.lower g.below }

pub meets_sym : {a b : Interval} → Meets a b → Meets b a
meets_sym g = record { above = g.below; below = g.above }

-- ---- nested enclosures

low_rises : (at_depth : ℕ → Interval) → IsNested at_depth → (n k : ℕ) → (at_depth n).lo ≤ᶠ (at_depth (k + n)).lo
low_rises at_depth h n zero = let P : ℕ → Type 0 = λ m. (at_depth n).lo ≤ᶠ (at_depth m).lo in subst P (omega arith) (le_refl_f (at_depth n).lo)
low_rises at_depth h n (suc k) =
    let P : ℕ → Type 0 = λ m. (at_depth n).lo ≤ᶠ (at_depth m).lo in
    let e : suc (k + n) ≡ suc k + n = omega arith in
    subst P e (le_trans_f (low_rises at_depth h n k) (h.nests (k + n)).lower)

high_falls : (at_depth : ℕ → Interval) → IsNested at_depth → (n k : ℕ) → (at_depth (k + n)).hi ≤ᶠ (at_depth n).hi
high_falls at_depth h n zero = let P : ℕ → Type 0 = λ m. (at_depth m).hi ≤ᶠ (at_depth n).hi in subst P (omega arith) (le_refl_f (at_depth n).hi)
high_falls at_depth h n (suc k) =
    let P : ℕ → Type 0 = λ m. (at_depth m).hi ≤ᶠ (at_depth n).hi in
    let e : suc (k + n) ≡ suc k + n = omega arith in
    subst P e (le_trans_f (h.nests (k + n)).upper (high_falls at_depth h n k))

-- a deeper enclosure lies in each one before it
pub nested_later : (at_depth : ℕ → Interval) → IsNested at_depth → (n m : ℕ) → n ≤ m → LiesIn (at_depth m) (at_depth n)
nested_later at_depth h n m g =
    let P : ℕ → Type 0 = λ k. LiesIn (at_depth k) (at_depth n) in
    let e : (m - n) + n ≡ m = omega arith in
    subst P e (record { lower = low_rises at_depth h n (m - n); upper = high_falls at_depth h n (m - n) })

-- the lower end at one depth is at most the upper end at any other
pub any_depths : (at_depth : ℕ → Interval) → IsNested at_depth → (n m : ℕ) → (at_depth n).lo ≤ᶠ (at_depth m).hi
any_depths at_depth h n m =
    let P : ℕ → Type 0 = λ k. (at_depth n).lo ≤ᶠ (at_depth k).lo in
    let e : m + n ≡ n + m = omega arith in
    le_trans_f (subst P e (low_rises at_depth h n m)) (le_trans_f (h.order (n + m)) (high_falls at_depth h m n))

-- an interval that holds the lower end at one depth and the upper end at another meets the enclosures at all
pub one_depth_meets : (at_depth : ℕ → Interval) → IsNested at_depth → (i : Interval) (m k : ℕ)
    → i.lo ≤ᶠ (at_depth m).lo → (at_depth k).hi ≤ᶠ i.hi → (n : ℕ) → Meets i (at_depth n)
one_depth_meets at_depth h i m k low high n = record {
  above = le_trans_f low (any_depths at_depth h m n);
  below = le_trans_f (any_depths at_depth h n k) high;
}
