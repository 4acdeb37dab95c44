-- Lists that are near the solution of their side, and the answers that they are.
use Rattle.std.proofs.Common.{ℕ, ◌+◌, ◌*◌, ◌^◌, ◌<◌, ◌≤◌, ◌≡◌, List, length, All, arith, lit≤}
use Rattle.std.specs.Prelude.{ℤ, pos, ◌*ℤ◌, ◌≤ℤ◌}
use Rattle.std.proofs.Math.Nat.{mul-le-mul_left}
use borrow.Author.Differences.{up, down, ints, at_most_in}
use Rattle.fx_base.specs.declared.Tick.{Tick}
use Rattle.fx_base.specs.Fraction.{◌≤ᶠ◌, ◌+ᶠ◌, ratio}
use Rattle.fx_base.specs.Units.{ticks}
use Rattle.fx_base.proofs.Order.{le_trans_f, add_le_f, le_refl_f, le_of_eq_f, ge_of_eq_f}
use Rattle.fx_base.proofs.Ratios.{ratio_num, ratio_den}
use Rattle.interval_system.specs.Whole.{denominator, numerator}
use Rattle.interval_system.specs.System.{System, low_weight, high_weight, low_direct, high_direct}
use Rattle.radiosity_solve.specs.Shown.{IsShownLower, IsShownUpper}
use Rattle.radiosity_solve.specs.Bounds.{IsEnd, tick_at, IsUniquelySolved, IsBelowEverySolution, IsAboveEverySolution, lower_solution, upper_solution, ten_thousandth, IsLowerAnswer, IsUpperAnswer, IsInOrder}
use Rattle.radiosity_solve.specs.Turn.{IsLowerTurn, IsUpperTurn, IsChangedBy, IsRiseBy}
use Rattle.radiosity_solve.proofs.Pairs.{SolvesPlainly}
use Rattle.radiosity_solve.proofs.Elimination.{eliminated}
use Rattle.radiosity_solve.proofs.Claims.{upper_holds, lower_holds, in_order}
use Rattle.radiosity_solve.proofs.Rate.{light-below, upper_by_change, lower_by_change}
use Rattle.radiosity_solve.proofs.Signed.{pairs, has_one_solution, times-parts}
use Rattle.radiosity_solve.proofs.Fractions.{solution-over}
use Rattle.radiosity_solve.proofs.Mild.{AreMild, within_low, within_high, within_below, ticks_over, high_rows_below, low_rows_below}
use Rattle.radiosity_solve.proofs.Turned.{upper_made, upper_falls, upper_shown, lower_made, lower_rises, lower_shown, upper_in_range, lower_in_range}

-- ---- the solutions of all upper and of all lower ends

pub high_solves : (s : System) → AreMild s
    → SolvesPlainly (length s.rows) 68719476736 (high_weight s) (high_direct s) (denominator (length s.rows) 68719476736 (high_weight s))
    (numerator (length s.rows) 68719476736 (high_weight s) (high_direct s))
high_solves s a =
    eliminated (length s.rows) 68719476736 (high_weight s) (high_direct s) (light-below (length s.rows) 68719476736 (high_weight s) (omega arith) a.high)

pub low_solves : (s : System) → AreMild s
    → SolvesPlainly (length s.rows) 68719476736 (low_weight s) (low_direct s) (denominator (length s.rows) 68719476736 (low_weight s))
    (numerator (length s.rows) 68719476736 (low_weight s) (low_direct s))
low_solves s a =
    eliminated (length s.rows) 68719476736 (low_weight s) (low_direct s) (light-below (length s.rows) 68719476736 (low_weight s) (omega arith) a.low)

-- ---- near enough, after a turn of small change

pub record IsNearUpper (s : System) (x : List Tick) : Type 0 where
  pub row : (i : ℕ) → i < length s.rows →
      denominator (length s.rows) 68719476736 (high_weight s) * tick_at x i
      ≤ 68719476736 * numerator (length s.rows) 68719476736 (high_weight s) (high_direct s) i
      + denominator (length s.rows) 68719476736 (high_weight s) * 6871947

pub record IsNearLower (s : System) (x : List Tick) : Type 0 where
  pub row : (i : ℕ) → i < length s.rows →
      68719476736 * numerator (length s.rows) 68719476736 (low_weight s) (low_direct s) i
      ≤ denominator (length s.rows) 68719476736 (low_weight s) * tick_at x i
      + denominator (length s.rows) 68719476736 (low_weight s) * 6871947

-- after a turn of small change
small-change : (n d m x y z : ℕ) → n ≤ 2048 → d ≤ 16384 → m * x ≤ z + m * (256 * (n + d)) → y ≤ x → m * y ≤ z + m * 6871947
small-change n d m x y z few small h fall =
    let most : 256 * (n + d) ≤ 6871947 = omega arith in
    omega (arith, mul-le-mul_left m most, mul-le-mul_left m fall)

small-rise : (n d m x y z : ℕ) → n ≤ 2048 → d ≤ 16384 → z ≤ m * x + m * (256 * (n + d)) → x ≤ y → z ≤ m * y + m * 6871947
small-rise n d m x y z few small h rise =
    let most : 256 * (n + d) ≤ 6871947 = omega arith in
    omega (arith, mul-le-mul_left m most, mul-le-mul_left m rise)

pub upper_settled : (s : System) (x y : List Tick) (d : ℕ) → AreMild s
    → IsShownUpper (length s.rows) 68719476736 (high_weight s) (high_direct s) (tick_at x)
    → IsUpperTurn s x y → length x ≡ length s.rows → IsChangedBy d x y → d ≤ 16384 → IsNearUpper s y
upper_settled s x y d a shown t size change small = record {
  row = λ i l.
      let n : ℕ = length s.rows in
      let m : ℕ = denominator n 68719476736 (high_weight s) in
      let h : ℕ → ℕ = numerator n 68719476736 (high_weight s) (high_direct s) in
      small-change n d m (tick_at x i) (tick_at y i) (68719476736 * h i) a.few small
      (upper_by_change n 68719476736 (high_weight s) (high_direct s) m h (tick_at x) d (omega arith) a.high (high_solves s a)
      (λ j w. omega (arith, change.down j (omega arith), upper_made s x y t j w)) i l)
      (upper_falls s x y shown t i l);
}

pub lower_settled : (s : System) (x y : List Tick) (d : ℕ) → AreMild s
    → IsShownLower (length s.rows) 68719476736 (low_weight s) (low_direct s) (tick_at x)
    → IsLowerTurn s x y → length x ≡ length s.rows → IsChangedBy d x y → d ≤ 16384 → IsNearLower s y
lower_settled s x y d a shown t size change small = record {
  row = λ i l.
      let n : ℕ = length s.rows in
      let m : ℕ = denominator n 68719476736 (low_weight s) in
      let h : ℕ → ℕ = numerator n 68719476736 (low_weight s) (low_direct s) in
      small-rise n d m (tick_at x i) (tick_at y i) (68719476736 * h i) a.few small
      (lower_by_change n 68719476736 (low_weight s) (low_direct s) m h (tick_at x) d (omega arith) a.low (low_solves s a)
      (λ j w. omega (arith, change.up j (omega arith), lower_made s x y t j w)) i l)
      (lower_rises s x y shown t i l);
}

-- ---- in fractions

ticks-near : (t h m : ℕ) → 0 < m → m * t ≤ 68719476736 * h + m * 6871947 → ticks t ≤ᶠ (ratio h m +ᶠ ratio 1 10000)
unfolding ticks ◌+ᶠ◌
ticks-near t h m p e = record {
  cross = rw (ratio_num h m p, ratio_den h m p, ratio_num 1 10000 (lit≤ tt), ratio_den 1 10000 (lit≤ tt)) (omega (arith, e));
}

solution-near : (t h m : ℕ) → 0 < m → 68719476736 * h ≤ m * t + m * 6871947 → ratio h m ≤ᶠ (ticks t +ᶠ ratio 1 10000)
unfolding ticks ◌+ᶠ◌
solution-near t h m p e = record {
  cross = rw (ratio_num h m p, ratio_den h m p, ratio_num 1 10000 (lit≤ tt), ratio_den 1 10000 (lit≤ tt)) (omega (arith, e));
}

pub upper_near : (s : System) (x : List Tick) → AreMild s → IsNearUpper s x
    → (i : ℕ) → i < length s.rows → ticks (tick_at x i) ≤ᶠ (upper_solution s i +ᶠ ten_thousandth)
upper_near s x a near i l =
    let n : ℕ = length s.rows in
    le_trans_f
    (ticks-near (tick_at x i) (numerator n 68719476736 (high_weight s) (high_direct s) i) (denominator n 68719476736 (high_weight s)) (high_solves s a).positive (near.row i l))
    (add_le_f (le_of_eq_f (solution-over n 68719476736 (high_weight s) (high_direct s) (λ i j. ticks (high_weight s i j)) (λ i. ticks (high_direct s i))
    (ticks_over n (high_weight s) (high_direct s)) (high_rows_below s a) i l)) (le_refl_f (ratio 1 10000)))

pub lower_near : (s : System) (x : List Tick) → AreMild s → IsNearLower s x
    → (i : ℕ) → i < length s.rows → lower_solution s i ≤ᶠ (ticks (tick_at x i) +ᶠ ten_thousandth)
lower_near s x a near i l =
    let n : ℕ = length s.rows in
    le_trans_f
    (ge_of_eq_f (solution-over n 68719476736 (low_weight s) (low_direct s) (λ i j. ticks (low_weight s i j)) (λ i. ticks (low_direct s i))
    (ticks_over n (low_weight s) (low_direct s)) (low_rows_below s a) i l))
    (solution-near (tick_at x i) (numerator n 68719476736 (low_weight s) (low_direct s) i) (denominator n 68719476736 (low_weight s)) (low_solves s a).positive (near.row i l))

-- ---- every solution of every system in the intervals

above-in : (m x : ℕ) (h : ℤ) → 68719476736 * up h ≤ 68719476736 * down h + m * x → (pos (2 ^ 36) *ℤ h) ≤ℤ (pos m *ℤ pos x)
above-in m x h e = at_most_in (pos (2 ^ 36) *ℤ h) (pos m *ℤ pos x) (omega (arith, ints, e, times-parts 68719476736 h))

below-in : (m x : ℕ) (h : ℤ) → 68719476736 * down h + m * x ≤ 68719476736 * up h → (pos m *ℤ pos x) ≤ℤ (pos (2 ^ 36) *ℤ h)
below-in m x h e = at_most_in (pos m *ℤ pos x) (pos (2 ^ 36) *ℤ h) (omega (arith, ints, e, times-parts 68719476736 h))

pub above_every : (s : System) (x : List Tick) → AreMild s
    → IsShownUpper (length s.rows) 68719476736 (high_weight s) (high_direct s) (tick_at x) → IsAboveEverySolution s (tick_at x)
above_every s x a shown = record {
  above = λ q k e m h w t i l. above-in m (tick_at x i) (h i)
      (upper_holds (length s.rows) 68719476736 (high_weight s) (high_direct s) (tick_at x) q k e m (λ j. up (h j)) (λ j. down (h j)) (omega arith)
      (within_below s q k e a w) (within_high s q k e w) shown (pairs (length s.rows) q k (λ j. pos (e j)) m h t) i l);
}

pub below_every : (s : System) (x : List Tick) → AreMild s
    → IsShownLower (length s.rows) 68719476736 (low_weight s) (low_direct s) (tick_at x) → IsBelowEverySolution s (tick_at x)
below_every s x a shown = record {
  below = λ q k e m h w t i l. below-in m (tick_at x i) (h i)
      (lower_holds (length s.rows) 68719476736 (low_weight s) (low_direct s) (tick_at x) q k e m (λ j. up (h j)) (λ j. down (h j)) (omega arith)
      (within_below s q k e a w) (within_low s q k e w) shown (pairs (length s.rows) q k (λ j. pos (e j)) m h t) i l);
}

-- ---- the answers

pub upper_answer : (s : System) (x : List Tick) → AreMild s → IsShownUpper (length s.rows) 68719476736 (high_weight s) (high_direct s) (tick_at x)
    → IsNearUpper s x → length x ≡ length s.rows → All IsEnd x → IsUpperAnswer s x
upper_answer s x a shown near size ends = record {
  size = size;
  in_range = ends;
  shown = shown;
  near = upper_near s x a near;
  above_all = above_every s x a shown;
}

pub lower_answer : (s : System) (x : List Tick) → AreMild s → IsShownLower (length s.rows) 68719476736 (low_weight s) (low_direct s) (tick_at x)
    → IsNearLower s x → length x ≡ length s.rows → All IsEnd x → IsLowerAnswer s x
lower_answer s x a shown near size ends = record {
  size = size;
  in_range = ends;
  shown = shown;
  near = lower_near s x a near;
  below_all = below_every s x a shown;
}

-- ---- a list that a turn changes by little everywhere

changed : (d : ℕ) (x y : List Tick) → IsRiseBy d x y → IsChangedBy d x y
changed d x y r = record { down = λ i l. omega (arith, r.up i l); up = r.little }

pub lower_found : (s : System) (x y : List Tick) → AreMild s → IsLowerTurn s x y → length x ≡ length s.rows → length y ≡ length s.rows
    → All IsEnd x → IsRiseBy 16384 x y → IsLowerAnswer s y
lower_found s x y a turn x-size y-size ends rise =
    let shown : IsShownLower (length s.rows) 68719476736 (low_weight s) (low_direct s) (tick_at x) =
    record { row = λ i l. omega (arith, lower_made s x y turn i l, rise.up i (omega arith)) } in
    lower_answer s y a (lower_shown s x y shown turn)
    (lower_settled s x y 16384 a shown turn x-size (changed 16384 x y rise) (lit≤ tt))
    y-size (lower_in_range s x y a turn x-size y-size ends)

pub upper_found : (s : System) (x y : List Tick) → AreMild s → IsUpperTurn s x y → length x ≡ length s.rows → length y ≡ length s.rows
    → All IsEnd x → IsRiseBy 16384 y x → IsUpperAnswer s y
upper_found s x y a turn x-size y-size ends rise =
    let shown : IsShownUpper (length s.rows) 68719476736 (high_weight s) (high_direct s) (tick_at x) =
    record { row = λ i l. omega (arith, upper_made s x y turn i l, rise.up i (omega arith)) } in
    let fall : IsChangedBy 16384 x y = record { down = λ i l. rise.little i (omega arith); up = λ i l. omega (arith, rise.up i (omega arith)) } in
    upper_answer s y a (upper_shown s x y shown turn)
    (upper_settled s x y 16384 a shown turn x-size fall (lit≤ tt))
    y-size (upper_in_range s x y a turn x-size y-size ends)

-- ---- both sides

pub answers_in_order : (s : System) (lower upper : List Tick) → AreMild s → IsLowerAnswer s lower → IsUpperAnswer s upper → IsInOrder s lower upper
answers_in_order s lower upper a low high = record {
  at = in_order (length s.rows) 68719476736 (low_weight s) (high_weight s) (low_direct s) (high_direct s) (tick_at lower) (tick_at upper) (omega arith)
      (light-below (length s.rows) 68719476736 (high_weight s) (omega arith) a.high) a.ordered a.ordered_light low.shown high.shown;
}

pub uniquely_solved : (s : System) → AreMild s → IsUniquelySolved s
uniquely_solved s a = record {
  below = λ q k e w. within_below s q k e a w;
  one = λ q k e w. has_one_solution (length s.rows) q k (λ i. pos (e i)) (within_below s q k e a w);
}
