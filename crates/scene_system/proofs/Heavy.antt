-- When a row of a scene is heavy: what that says of the row sums of the room's coefficients.
use Rattle.std.proofs.Common.{ℕ, ◌*◌, ◌<◌, ◌≤◌, ◌≡◌, [], length, arith, lit<}
use Rattle.std.proofs.lemmas.Grind.{div_ceil_times}
use Rattle.std.proofs.lemmas.List.Elements.{All-from_get_or}
use Rattle.fx_base.specs.Fraction.{◌≤ᶠ◌, ◌<ᶠ◌, ◌+ᶠ◌, ratio}
use Rattle.fx_base.specs.Units.{ticks}
use Rattle.fx_base.proofs.Order.{le_refl_f, le_trans_f, lt_le_trans_f, add_le_f}
use Rattle.fx_base.proofs.Ratios.{ratio_num, ratio_den, ratio_le, le_ratio, le_ratio_back}
use Rattle.interval_system.specs.Whole.{total}
use Rattle.interval_system.specs.System.{high_weight, upper_total}
use Rattle.scene_system.specs.RowSums.{row_sum, slack, greatest_row_sum, in_thousandths, HeavyHasCause, MildIsServed, NoneIsShownHeavy}
use Rattle.scene_system.specs.Scene.{patch_count}
use Rattle.scene_system.proofs.Rows.{rows_are, row-total, row_below, row_above, light_row}

-- ---- sums of ticks against 255/256

light_most : (t : ℕ) → t ≤ 68451041280 → ticks t ≤ᶠ greatest_row_sum
unfolding ticks
light_most t h = le_ratio 255 256 (ticks t) (lit< tt) (omega arith)

most_heavy : (t : ℕ) → 68451041280 < t → greatest_row_sum <ᶠ ticks t
unfolding ticks ratio
most_heavy t h = record { cross = omega arith }

most_light : (t : ℕ) → ticks t ≤ᶠ greatest_row_sum → t ≤ 68451041280
unfolding ticks
most_light t h = let g = le_ratio_back 255 256 (ticks t) (lit< tt) h in omega arith

-- ---- and in thousandths

thousandths_above : (t : ℕ) → ticks t ≤ᶠ ratio (in_thousandths t) 1000
unfolding ticks
thousandths_above t =
    let up = (div_ceil_times (t * 1000) 68719476736 (lit< tt)).0 in
    le_ratio (in_thousandths t) 1000 (ticks t) (lit< tt) (omega arith)

thousandths_below : (t : ℕ) → ratio (in_thousandths t) 1000 ≤ᶠ (ticks t +ᶠ ratio 1 1000)
unfolding ticks ◌+ᶠ◌
thousandths_below t =
    let near = (div_ceil_times (t * 1000) 68719476736 (lit< tt)).1 in
    ratio_le (in_thousandths t) 1000 (ticks t +ᶠ ratio 1 1000) (lit< tt)
    (rw (ratio_num 1 1000 (lit< tt), ratio_den 1 1000 (lit< tt)) (omega arith))

-- ---- the rules

pub heavy_has_cause : HeavyHasCause
heavy_has_cause room s row sum accepted formed scene first =
    let rows : length s.system.rows ≡ patch_count room = rows_are room s formed scene in
    let inside : row < patch_count room = let i = first.inside in omega arith in
    let is : sum ≡ total (patch_count room) (high_weight s.system row) = let e = first.is in omega (arith, e, row-total room s formed.system formed scene row inside) in
    let below : (n : ℕ) → ticks sum ≤ᶠ ((row_sum n room row).hi +ᶠ slack room) = λ n. rw is (row_below n room s row scene inside) in
    let above : (n : ℕ) → (row_sum n room row).lo ≤ᶠ ticks sum = λ n. rw is (row_above n room s row scene inside) in
    record {
      in_room = inside;
      heavy = λ n deep. lt_le_trans_f (most_heavy sum first.heavy) (below n);
      none_before = λ i n l.
          let k : i < patch_count room = omega (arith, l, inside) in
          le_trans_f (row_above n room s i scene k)
          (light_most (total (patch_count room) (high_weight s.system i)) (omega (arith, row-total room s formed.system formed scene i k, first.earlier i l)));
      sum_above = λ n deep. le_trans_f (above n) (thousandths_above sum);
      sum_below = λ n deep. le_trans_f (thousandths_below sum) (add_le_f (below n) (le_refl_f (ratio 1 1000)));
    }

pub none_is_shown_heavy : NoneIsShownHeavy
none_is_shown_heavy room s accepted formed scene none i n k =
    le_trans_f (row_above n room s i scene k) (light_most (total (patch_count room) (high_weight s.system i)) (light_row room s formed scene none i k))

pub mild_is_served : MildIsServed
mild_is_served room s accepted formed scene mild =
    let rows : length s.system.rows ≡ patch_count room = rows_are room s formed scene in
    All-from_get_or (λ row. upper_total row ≤ 68451041280) s.system.rows []
    (λ i l.
    let k : i < patch_count room = omega arith in
    omega (
      arith,
      row-total room s formed.system formed scene i k,
      most_light (total (patch_count room) (high_weight s.system i)) (le_trans_f (row_below mild.depth room s i scene k) (mild.row i k)),
    ))
