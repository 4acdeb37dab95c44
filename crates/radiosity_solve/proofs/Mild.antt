-- What the conditions of a system, and that no row is heavy, say of its numbers.
use Rattle.std.proofs.Common.{ℕ, suc, ◌*◌, ◌^◌, ◌<◌, ◌≤◌, ◌≡◌, refl, sym, ap, ◌∙◌, [], length, get_or, All, arith}
use Rattle.std.proofs.Math.Nat.{mul-le-mul_left}
use Rattle.std.proofs.lemmas.List.Elements.{All-get_or}
use Rattle.fx_base.specs.declared.Weight.{Weight}
use Rattle.fx_base.specs.Fraction.{Fraction, whole, sum_to}
use Rattle.fx_base.specs.Units.{ticks}
use Rattle.fx_base.proofs.Rounding.{natural-mono, natural_most}
use Rattle.interval_system.specs.Whole.{total, IsBelowOne}
use Rattle.interval_system.specs.Equations.{RowsBelowOne, IsOver}
use Rattle.interval_system.specs.System.{System, IsSystem, IsWeight, IsDirectLight, NoneHeavy, no_weight, no_light, weight_at, direct_at, low_weight, high_weight, low_direct, high_direct, upper_total, greatest_row_sum}
use Rattle.radiosity_solve.specs.Bounds.{IsWithin}
use Rattle.radiosity_solve.specs.Laws.{IsBelowEquations}
use Rattle.interval_system.proofs.Totals.{total-le, total-scale, sum_by-total}
use Rattle.radiosity_solve.proofs.Over.{over-sum}
use Rattle.radiosity_solve.proofs.Rate.{IsMild, light-below}

-- ---- the numbers of a system with no heavy row

pub record AreMild (s : System) : Type 0 where
  pub few : length s.rows ≤ 2048
  pub high : IsMild (length s.rows) 68719476736 (high_weight s)
  pub low : IsMild (length s.rows) 68719476736 (low_weight s)
  pub ordered : (i j : ℕ) → i < length s.rows → j < length s.rows → low_weight s i j ≤ high_weight s i j
  pub high_light : (i : ℕ) → i < length s.rows → high_direct s i ≤ 2 ^ 82
  pub low_light : (i : ℕ) → i < length s.rows → low_direct s i ≤ 2 ^ 82
  pub ordered_light : (i : ℕ) → i < length s.rows → low_direct s i ≤ high_direct s i

weight-is : (s : System) → IsSystem s → (i j : ℕ) → i < length s.rows → j < length s.rows → IsWeight (weight_at s i j)
weight-is s y i j l w =
    let square : length (get_or s.rows i []) ≡ length s.rows = All-get_or (λ row. length row ≡ length s.rows) s.rows i [] l y.square in
    let row : All IsWeight (get_or s.rows i []) = All-get_or (λ row. All IsWeight row) s.rows i [] l y.weights in
    All-get_or IsWeight (get_or s.rows i []) j no_weight (omega arith) row

light-is : (s : System) → IsSystem s → (i : ℕ) → i < length s.rows → IsDirectLight (direct_at s i)
light-is s y i l = let lights : length s.direct ≡ length s.rows = y.lights in All-get_or IsDirectLight s.direct i no_light (omega arith) y.light

row-total : (s : System) → IsSystem s → (i : ℕ) → i < length s.rows → total (length s.rows) (high_weight s i) ≡ upper_total (get_or s.rows i [])
row-total s y i l =
    let square : length (get_or s.rows i []) ≡ length s.rows = All-get_or (λ row. length row ≡ length s.rows) s.rows i [] l y.square in
    sym (sum_by-total (λ (w : Weight). w.hi) (get_or s.rows i []) no_weight ∙ ap (λ (n : ℕ). total n (high_weight s i)) square)

pub mild : (s : System) → IsSystem s → NoneHeavy s.rows → AreMild s
mild s y none =
    let high : (i : ℕ) → i < length s.rows → 256 * total (length s.rows) (high_weight s i) ≤ 255 * 68719476736 = λ i l.
    omega (arith, row-total s y i l, All-get_or (λ row. upper_total row ≤ greatest_row_sum) s.rows i [] l none) in
    record {
      few = y.few;
      high = record { row = high };
      low = record {
        row = λ i l. omega (arith, high i l, total-le (length s.rows) (low_weight s i) (high_weight s i) (λ j w. (weight-is s y i j l w).in_order));
      };
      ordered = λ i j l w. (weight-is s y i j l w).in_order;
      high_light = λ i l. natural_most (direct_at s i).hi (2 ^ 82) (light-is s y i l).most;
      low_light = λ i l.
          let order : low_direct s i ≤ high_direct s i = natural-mono (direct_at s i).lo (direct_at s i).hi (light-is s y i l).low (light-is s y i l).in_order in
          omega (arith, order, natural_most (direct_at s i).hi (2 ^ 82) (light-is s y i l).most);
      ordered_light = λ i l. natural-mono (direct_at s i).lo (direct_at s i).hi (light-is s y i l).low (light-is s y i l).in_order;
    }

-- ---- the systems in its intervals

pub within_low : (s : System) (q : ℕ) (k : ℕ → ℕ → ℕ) (e : ℕ → ℕ) → IsWithin s q k e
    → IsBelowEquations (length s.rows) 68719476736 (low_weight s) (low_direct s) q k e
within_low s q k e w = record { coefficient = w.low; light = w.low_light }

pub within_high : (s : System) (q : ℕ) (k : ℕ → ℕ → ℕ) (e : ℕ → ℕ) → IsWithin s q k e
    → IsBelowEquations (length s.rows) q k e 68719476736 (high_weight s) (high_direct s)
within_high s q k e w = record { coefficient = w.high; light = w.high_light }

pub within_below : (s : System) (q : ℕ) (k : ℕ → ℕ → ℕ) (e : ℕ → ℕ) → AreMild s → IsWithin s q k e → IsBelowOne (length s.rows) q k
within_below s q k e a w = record {
  row = λ i l.
      let n : ℕ = length s.rows in
      let sent : 68719476736 * total n (k i) ≤ q * total n (high_weight s i) =
      omega (
        arith,
        total-scale n 68719476736 (k i),
        total-scale n q (high_weight s i),
        total-le n (λ j. 68719476736 * k i j) (λ j. q * high_weight s i j) (λ j v. omega (arith, w.high i j l v)),
      ) in
      small q (total n (k i)) (total n (high_weight s i)) w.positive sent (a.high.row i l);
}
  where
    small : (q t h : ℕ) → 0 < q → 68719476736 * t ≤ q * h → 256 * h ≤ 255 * 68719476736 → t < q
    small q t h p sent most = omega (arith, mul-le-mul_left q most)

-- ---- its ends as fractions

pub ticks_over : (n : ℕ) (k : ℕ → ℕ → ℕ) (d : ℕ → ℕ) → IsOver n 68719476736 k d (λ i j. ticks (k i j)) (λ i. ticks (d i))
unfolding ticks
ticks_over n k d = record { positive = omega arith; coefficient = λ i j l w. refl; light = λ i l. refl }

pub ticks_rows_below : (n : ℕ) (k : ℕ → ℕ → ℕ) → IsBelowOne n 68719476736 k → RowsBelowOne n (λ i j. ticks (k i j))
unfolding whole ticks
ticks_rows_below n k b = record {
  row = λ i l. record {
    cross = below (total n (k i)) (sum_to n (λ j. ticks (k i j))) (b.row i l) (over-sum n 68719476736 (k i) (λ j. ticks (k i j)) (λ j w. refl));
  };
}
  where
    below : (t : ℕ) (f : Fraction) → t < 68719476736 → t * f.den ≡ f.num * 68719476736 → f.num * 1 < 1 * f.den
    below t f h e = let p : 0 < f.den = f.positive in let more : suc t ≤ 68719476736 = omega arith in omega (arith, e, mul-le-mul_left f.den more)

pub high_rows_below : (s : System) → AreMild s → RowsBelowOne (length s.rows) (λ i j. ticks (high_weight s i j))
high_rows_below s a = ticks_rows_below (length s.rows) (high_weight s) (light-below (length s.rows) 68719476736 (high_weight s) (omega arith) a.high)

pub low_rows_below : (s : System) → AreMild s → RowsBelowOne (length s.rows) (λ i j. ticks (low_weight s i j))
low_rows_below s a = ticks_rows_below (length s.rows) (low_weight s) (light-below (length s.rows) 68719476736 (low_weight s) (omega arith) a.low)
