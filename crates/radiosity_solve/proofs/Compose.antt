-- Claims shown in ticks meet the solutions of the equations in fractions that the ticks enclose.
use Rattle.std.proofs.Common.{ℕ, ◌+◌, ◌*◌, ◌<◌, ◌≤◌, length, arith}
use Rattle.fx_base.specs.Fraction.{◌≤ᶠ◌, ratio}
use Rattle.fx_base.specs.Units.{ticks}
use Rattle.fx_base.proofs.Order.{le_trans_f, add_le_f, le_refl_f}
use Rattle.fx_base.proofs.Ratios.{ratio_num, ratio_den}
use Rattle.interval_system.specs.Whole.{denominator, numerator}
use Rattle.interval_system.specs.Equations.{common_denominator}
use Rattle.interval_system.specs.System.{low_weight, high_weight, low_direct, high_direct}
use Rattle.radiosity_solve.specs.Bounds.{tick_at}
use Rattle.radiosity_solve.specs.Composition.{LowerIsBelow, UpperIsAbove, UpperIsWithin, LowerIsWithin, RowsAreBelowOne, ShownClaimHolds}
use Rattle.radiosity_solve.proofs.Pairs.{SolvesPlainly, none, plain-solves}
use Rattle.radiosity_solve.proofs.Claims.{upper_holds, lower_holds, in_order}
use Rattle.radiosity_solve.proofs.Over.{below_over}
use Rattle.radiosity_solve.proofs.Rate.{light-below}
use Rattle.radiosity_solve.proofs.Fractions.{whole_k, whole_d, whole_over, whole_below, whole_solution, solution-is, solutions_ordered}
use Rattle.radiosity_solve.proofs.Mild.{AreMild, mild, ticks_over, low_rows_below, high_rows_below}
use Rattle.radiosity_solve.proofs.NearEnough.{below_every, above_every}

-- ---- where the ticks are shown

ticks-below-ratio : (t h m : ℕ) → 0 < m → m * t ≤ 68719476736 * h → ticks t ≤ᶠ ratio h m
unfolding ticks
ticks-below-ratio t h m p e = record { cross = rw (ratio_num h m p, ratio_den h m p) (omega (arith, e)) }

ratio-below-ticks : (t h m : ℕ) → 0 < m → 68719476736 * h ≤ m * t → ratio h m ≤ᶠ ticks t
unfolding ticks
ratio-below-ticks t h m p e = record { cross = rw (ratio_num h m p, ratio_den h m p) (omega (arith, e)) }

pub lower_below : LowerIsBelow
unfolding none
lower_below n k d lo dlo lower b weights lights shown i l =
    let q : ℕ = common_denominator n k d in
    let m : ℕ = denominator n q (whole_k n k d) in
    let h : ℕ → ℕ = numerator n q (whole_k n k d) (whole_d n k d) in
    let s : SolvesPlainly n q (whole_k n k d) (whole_d n k d) m h = whole_solution n k d b in
    let holds : 68719476736 * 0 + m * lower i ≤ 68719476736 * h i =
    lower_holds n 68719476736 lo dlo lower q (whole_k n k d) (whole_d n k d) m h none (omega arith) (whole_below n k d b)
    (below_over n 68719476736 lo dlo (λ i j. ticks (lo i j)) (λ i. ticks (dlo i)) q (whole_k n k d) (whole_d n k d) k d
    (ticks_over n lo dlo) (whole_over n k d) weights lights)
    shown (plain-solves n q (whole_k n k d) (whole_d n k d) m h s) i l in
    rw (solution-is n k d i) (ticks-below-ratio (lower i) (h i) m s.positive (omega arith))

pub upper_above : UpperIsAbove
unfolding none
upper_above n k d hi dhi upper b weights lights shown i l =
    let q : ℕ = common_denominator n k d in
    let m : ℕ = denominator n q (whole_k n k d) in
    let h : ℕ → ℕ = numerator n q (whole_k n k d) (whole_d n k d) in
    let s : SolvesPlainly n q (whole_k n k d) (whole_d n k d) m h = whole_solution n k d b in
    let holds : 68719476736 * h i ≤ 68719476736 * 0 + m * upper i =
    upper_holds n 68719476736 hi dhi upper q (whole_k n k d) (whole_d n k d) m h none (omega arith) (whole_below n k d b)
    (below_over n q (whole_k n k d) (whole_d n k d) k d 68719476736 hi dhi (λ i j. ticks (hi i j)) (λ i. ticks (dhi i))
    (whole_over n k d) (ticks_over n hi dhi) weights lights)
    shown (plain-solves n q (whole_k n k d) (whole_d n k d) m h s) i l in
    rw (solution-is n k d i) (ratio-below-ticks (upper i) (h i) m s.positive (omega arith))

-- ---- where they are near

pub upper_within : UpperIsWithin
upper_within n k d hi dhi upper move b weights lights near i l =
    le_trans_f (near i l)
    (add_le_f (solutions_ordered n (λ i j. ticks (hi i j)) k (λ i. ticks (dhi i)) d b weights lights i l) (le_refl_f move))

pub lower_within : LowerIsWithin
lower_within n k d lo dlo lower move b weights lights near i l =
    le_trans_f (solutions_ordered n k (λ i j. ticks (lo i j)) d (λ i. ticks (dlo i)) b weights lights i l) (near i l)

-- ---- of a system without a heavy row

pub rows_are_below_one : RowsAreBelowOne
rows_are_below_one s y light = record { low = low_rows_below s (mild s y light); high = high_rows_below s (mild s y light) }

pub shown_claim_holds : ShownClaimHolds
shown_claim_holds s lower upper y light low high =
    let a : AreMild s = mild s y light in
    record {
      below = below_every s lower a low;
      above = above_every s upper a high;
      in_order = in_order (length s.rows) 68719476736 (low_weight s) (high_weight s) (low_direct s) (high_direct s) (tick_at lower) (tick_at upper) (omega arith)
          (light-below (length s.rows) 68719476736 (high_weight s) (omega arith) a.high) a.ordered a.ordered_light low high;
    }
