-- What one turn makes of a list of light.
use Rattle.std.proofs.Common.{ℕ, ◌*◌, ◌^◌, ◌<◌, ◌≤◌, ◌≡◌, refl, List, length, get_or, All, arith}
use Rattle.std.specs.Prelude.{pos}
use Rattle.std.proofs.Math.Nat.{mul-le-mul_left}
use Rattle.std.proofs.lemmas.List.Elements.{All-get_or, All-from_get_or}
use borrow.Author.Differences.{at_most_in}
use Rattle.fx_base.specs.declared.Tick.{Tick}
use Rattle.fx_base.proofs.Shares.{up_rises, down_rises, down_below_up}
use Rattle.interval_system.specs.System.{System, low_weight, high_weight, low_direct, high_direct}
use Rattle.radiosity_solve.specs.Shown.{down_to, up_to, lower_sum, upper_sum, IsShownLower, IsShownUpper}
use Rattle.radiosity_solve.specs.Bounds.{IsEnd, tick_at, no_tick}
use Rattle.radiosity_solve.specs.Turn.{next_low, next_high, IsLowerTurn, IsUpperTurn}
use Rattle.interval_system.proofs.Totals.{total-le, total-same, total-scale}
use Rattle.radiosity_solve.proofs.Rate.{IsMild}
use Rattle.radiosity_solve.proofs.Mild.{AreMild}
use Rattle.radiosity_solve.proofs.Steps.{end_small}

-- ---- sums rise with what is summed

pub upper_sum-rises : (n : ℕ) (k : ℕ → ℕ → ℕ) (d x y : ℕ → ℕ) → ((j : ℕ) → j < n → x j ≤ y j) → (i : ℕ)
    → upper_sum n 68719476736 k d x i ≤ upper_sum n 68719476736 k d y i
upper_sum-rises n k d x y h i =
    omega (
      arith,
      total-le n (λ j. up_to 68719476736 (k i j * x j)) (λ j. up_to 68719476736 (k i j * y j))
          (λ j w. up_rises (k i j * x j) (k i j * y j) (mul-le-mul_left (k i j) (h j w))),
    )

pub lower_sum-rises : (n : ℕ) (k : ℕ → ℕ → ℕ) (d x y : ℕ → ℕ) → ((j : ℕ) → j < n → x j ≤ y j) → (i : ℕ)
    → lower_sum n 68719476736 k d x i ≤ lower_sum n 68719476736 k d y i
lower_sum-rises n k d x y h i =
    omega (
      arith,
      total-le n (λ j. down_to 68719476736 (k i j * x j)) (λ j. down_to 68719476736 (k i j * y j))
          (λ j w. down_rises (k i j * x j) (k i j * y j) (mul-le-mul_left (k i j) (h j w))),
    )

lower-below-upper : (n : ℕ) (k : ℕ → ℕ → ℕ) (d x y : ℕ → ℕ) → ((j : ℕ) → j < n → x j ≤ y j) → (i : ℕ)
    → lower_sum n 68719476736 k d x i ≤ upper_sum n 68719476736 k d y i
lower-below-upper n k d x y h i =
    omega (
      arith,
      total-le n (λ j. down_to 68719476736 (k i j * x j)) (λ j. up_to 68719476736 (k i j * y j))
          (λ j w. down_below_up (k i j * x j) (k i j * y j) (mul-le-mul_left (k i j) (h j w))),
    )

-- ---- 2^90 ticks everywhere are an upper claim

unfoldable pub top : ℕ → ℕ
top i = 2 ^ 90

up-top : (k : ℕ) → up_to 68719476736 (k * 2 ^ 90) ≡ 2 ^ 54 * k
unfolding up_to
up-top k = omega arith

pub top-shown : (n : ℕ) (k : ℕ → ℕ → ℕ) (d : ℕ → ℕ) → IsMild n 68719476736 k → ((i : ℕ) → i < n → d i ≤ 2 ^ 82)
    → IsShownUpper n 68719476736 k d top
unfolding top
top-shown n k d a light = record {
  row = λ i l.
      omega (
        arith,
        light i l,
        a.row i l,
        total-scale n (2 ^ 54) (k i),
        total-same n (λ j. up_to 68719476736 (k i j * 2 ^ 90)) (λ j. 2 ^ 54 * k i j) (λ j w. up-top (k i j)),
      );
}

-- ---- a turn from above

made-tick : (xs : List Tick) (i v : ℕ) → get_or xs i no_tick ≡ record { 0 = pos v } → tick_at xs i ≡ v
made-tick xs i v e = rw e refl

pub upper_made : (s : System) (x y : List Tick) → IsUpperTurn s x y → (i : ℕ) → i < length s.rows
    → tick_at y i ≡ upper_sum (length s.rows) 68719476736 (high_weight s) (high_direct s) (tick_at x) i
unfolding next_high
upper_made s x y t i l = made-tick y i (upper_sum (length s.rows) 68719476736 (high_weight s) (high_direct s) (tick_at x) i) (t.row i l)

pub upper_falls : (s : System) (x y : List Tick) → IsShownUpper (length s.rows) 68719476736 (high_weight s) (high_direct s) (tick_at x)
    → IsUpperTurn s x y → (i : ℕ) → i < length s.rows → tick_at y i ≤ tick_at x i
upper_falls s x y shown t i l = omega (arith, upper_made s x y t i l, shown.row i l)

-- what a turn makes of a shown claim is shown
pub upper_shown : (s : System) (x y : List Tick) → IsShownUpper (length s.rows) 68719476736 (high_weight s) (high_direct s) (tick_at x)
    → IsUpperTurn s x y → IsShownUpper (length s.rows) 68719476736 (high_weight s) (high_direct s) (tick_at y)
upper_shown s x y shown turn = record {
  row = λ i l. omega (
    arith,
    upper_made s x y turn i l,
    upper_sum-rises (length s.rows) (high_weight s) (high_direct s) (tick_at y) (tick_at x) (λ j w. upper_falls s x y shown turn j w) i,
  );
}

-- ---- a turn from below

pub lower_made : (s : System) (x y : List Tick) → IsLowerTurn s x y → (i : ℕ) → i < length s.rows
    → tick_at y i ≡ lower_sum (length s.rows) 68719476736 (low_weight s) (low_direct s) (tick_at x) i
unfolding next_low
lower_made s x y t i l = made-tick y i (lower_sum (length s.rows) 68719476736 (low_weight s) (low_direct s) (tick_at x) i) (t.row i l)

pub lower_rises : (s : System) (x y : List Tick) → IsShownLower (length s.rows) 68719476736 (low_weight s) (low_direct s) (tick_at x)
    → IsLowerTurn s x y → (i : ℕ) → i < length s.rows → tick_at x i ≤ tick_at y i
lower_rises s x y shown t i l = omega (arith, lower_made s x y t i l, shown.row i l)

pub lower_shown : (s : System) (x y : List Tick) → IsShownLower (length s.rows) 68719476736 (low_weight s) (low_direct s) (tick_at x)
    → IsLowerTurn s x y → IsShownLower (length s.rows) 68719476736 (low_weight s) (low_direct s) (tick_at y)
lower_shown s x y shown turn = record {
  row = λ i l. omega (
    arith,
    lower_made s x y turn i l,
    lower_sum-rises (length s.rows) (low_weight s) (low_direct s) (tick_at x) (tick_at y) (λ j w. lower_rises s x y shown turn j w) i,
  );
}

-- ---- what a turn makes of ends are ends

pub end-of : (v : ℕ) → v ≤ 2 ^ 90 → IsEnd (record { 0 = pos v })
end-of v h = record { low = at_most_in (pos 0) (pos v) (omega arith); high = at_most_in (pos v) (pos (2 ^ 90)) (omega arith) }

next_high-is : (s : System) (x : List Tick) (i : ℕ)
    → next_high s x i ≡ upper_sum (length s.rows) 68719476736 (high_weight s) (high_direct s) (tick_at x) i
unfolding next_high
next_high-is s x i = refl

next_low-is : (s : System) (x : List Tick) (i : ℕ)
    → next_low s x i ≡ lower_sum (length s.rows) 68719476736 (low_weight s) (low_direct s) (tick_at x) i
unfolding next_low
next_low-is s x i = refl

pub end-size : (x : List Tick) (i : ℕ) → i < length x → All IsEnd x → tick_at x i ≤ 2 ^ 90
end-size x i l ends = end_small (get_or x i no_tick) (All-get_or IsEnd x i no_tick l ends)

pub upper_in_range : (s : System) (x y : List Tick) → AreMild s
    → IsUpperTurn s x y → length x ≡ length s.rows → length y ≡ length s.rows → All IsEnd x → All IsEnd y
unfolding top
upper_in_range s x y a t x-size y-size ends =
    All-from_get_or IsEnd y no_tick
    (λ i l.
    let row : i < length s.rows = omega arith in
    rw (t.row i row) (end-of (next_high s x i) (omega (
      arith,
      next_high-is s x i,
      upper_sum-rises (length s.rows) (high_weight s) (high_direct s) (tick_at x) top (λ j w. end-size x j (omega arith) ends) i,
      (top-shown (length s.rows) (high_weight s) (high_direct s) a.high a.high_light).row i row,
    ))))

pub lower_in_range : (s : System) (x y : List Tick) → AreMild s
    → IsLowerTurn s x y → length x ≡ length s.rows → length y ≡ length s.rows → All IsEnd x → All IsEnd y
unfolding top
lower_in_range s x y a t x-size y-size ends =
    All-from_get_or IsEnd y no_tick
    (λ i l.
    let row : i < length s.rows = omega arith in
    rw (t.row i row) (end-of (next_low s x i) (omega (
      arith,
      next_low-is s x i,
      lower-below-upper (length s.rows) (low_weight s) (low_direct s) (tick_at x) top (λ j w. end-size x j (omega arith) ends) i,
      (top-shown (length s.rows) (low_weight s) (low_direct s) a.low a.low_light).row i row,
    ))))
