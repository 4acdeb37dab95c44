-- The average of the values of a room's task points is that of the room, and near it.
use Rattle.std.proofs.Common.{ℕ, suc, ◌+◌, ◌*◌, ◌/◌, ◌^◌, ◌<◌, ◌≤◌, ◌≡◌, Bool, true, false, if◌then◌else◌, not, List, [], ◌∷◌, All, length, arith, refl, subst, sym}
use Rattle.std.specs.Prelude.{slice_index_or, ℤ, pos, ◌≤ℤ◌, count_by, sum_by}
use Rattle.std.specs.Int.{div_ceil}
use Rattle.std.proofs.Math.Nat.{lt_of_mul-lt-mul_right}
use Rattle.std.proofs.lemmas.Int.{ints}
use Rattle.std.proofs.lemmas.Grind.{div_ceil_times}
use Rattle.std.proofs.lemmas.List.Elements.{All-get_or}
use Rattle.std.proofs.lemmas.List.Sums.{sum_by-cons}
use Rattle.fx_base.specs.Ends.{Ends}
use Rattle.fx_base.specs.Fraction.{◌≤ᶠ◌, ◌+ᶠ◌, ratio}
use Rattle.fx_base.specs.Interval.{InOrder, Meets, LiesIn, outward}
use Rattle.fx_base.specs.Units.{natural, of_span, ticks}
use Rattle.fx_base.proofs.Order.{le_refl_f, le_trans_f, add_le_f, sub_le_f}
use Rattle.interval_system.specs.Radiosity.{Light, IsLightOf, values}
use Rattle.interval_system.specs.Values.{average, open_count}
use Rattle.radiosity_solve.specs.Bounds.{ten_thousandth}
use Rattle.room_layout.specs.declared.room.Room.{Room}
use Rattle.photo_table.specs.Table.{Table}
use Rattle.scene_system.specs.PointValues.{ArePoints}
use Rattle.scene_system.specs.RoomValues.{ForExactValues, ForLooseValues}
use Rattle.scene_system.specs.Scene.{radiosity, loose_radiosity}
use Rattle.scene_system.specs.Sums.{is_open, high_of, high_total, open_total, average_low, average_high, IsValue}
use Rattle.scene_system.specs.declared.value.PointValue.{PointValue}
use Rattle.scene_system.proofs.Averages.{AreMeeting, AreNear, average_meets, average_near_low, average_near_high, average_order_near}
use Rattle.scene_system.proofs.MeanOrder.{average_order}
use Rattle.scene_system.proofs.RoomAverages.{each_value, meeting, near}
use Rattle.scene_system.proofs.TickMeans.{count_is, open_count-cons}
use Rattle.dimming_plan.specs.GroupAverages.{IsGroupAverage, IsInRange}

-- ---- how great it is

-- the ends of a value that counts are at most 2^102 ticks
most_step : (b : Bool) (x p n : ℕ) → x ≤ 2 ^ 102 → p ≤ n * 2 ^ 102 → (if b then 0 else x) + p ≤ ((if not b then 1 else 0) + n) * 2 ^ 102
most_step true x p n h g = omega (arith, g)
most_step false x p n h g = omega (arith, h, g)

high_total_most : (vs : List PointValue) → ((g : ℕ) (d : PointValue) → g < length vs → IsValue (slice_index_or vs g d)) → high_total vs ≤ open_total vs * 2 ^ 102
high_total_most [] each = omega arith
high_total_most (v ∷ vs) each =
    rw (sum_by-cons high_of v vs, open_count-cons v vs)
    (most_step v.covered (natural v.value.hi) (high_total vs) (open_total vs) (each 0 v (omega arith)).high (high_total_most vs (λ g d l. each (suc g) d (omega (arith, l)))))

quotient_most : (t c e : ℕ) → 0 < c → t ≤ c * e → div_ceil t c ≤ e
quotient_most t c e p h =
    let k = (div_ceil_times t c p).1 in
    let l : div_ceil t c < e + 1 = lt_of_mul-lt-mul_right c (omega (arith, k, h)) in omega (arith, l)

average_most : (vs : List PointValue) → 0 < open_total vs → ((g : ℕ) (d : PointValue) → g < length vs → IsValue (slice_index_or vs g d)) → average_high vs ≤ 2 ^ 102
average_most vs some each = quotient_most (high_total vs) (open_total vs) (2 ^ 102) some (high_total_most vs each)

pub in_range : (vs : List PointValue) (r : Ends) → 0 < open_total vs → All IsValue vs → r.lo ≡ pos (average_low vs) → r.hi ≡ pos (average_high vs)
    → average_low vs ≤ average_high vs → IsInRange r
in_range vs r some all low high order = record {
  low = rw low (omega (arith, ints));
  order = rw (low, high) (omega (arith, ints, order));
  high = rw high (omega (arith, average_most vs some (λ g d l. All-get_or IsValue vs g d l all)));
}

-- ---- how near

few_ticks : ticks 2049 ≤ᶠ ten_thousandth
unfolding ticks ratio
few_ticks = record { cross = omega arith }

-- ---- the average

averaged : (tables : List Table) (room : Room) (vs : List PointValue) → ArePoints tables room vs → 0 < open_total vs → average_low vs ≤ average_high vs
    → IsGroupAverage tables room (record { lo = pos (average_low vs); hi = pos (average_high vs) })
averaged tables room vs are some order = record {
  meets = λ n deep light solves. average_meets (values (radiosity n tables room) light) vs (meeting tables room vs n light deep solves are) some;
  near = λ n deep light solves.
      let x = values (loose_radiosity n tables room) light in
      let close = near tables room vs n light deep solves are in record {
        lower = sub_le_f (average x).lo ten_thousandth (le_trans_f (average_near_low 2048 x vs close some) (add_le_f (le_refl_f (ticks (average_low vs))) few_ticks));
        upper = le_trans_f (average_near_high 2048 x vs close some) (add_le_f (le_refl_f (average x).hi) few_ticks);
      };
  low = omega (arith, ints);
  order = omega (arith, ints, order);
  high = omega (arith, average_most vs some (each_value tables room vs are));
  rows = are.rows;
  loose_rows = are.loose_rows;
  in_order = λ n deep light solves.
      let x = values (radiosity n tables room) light in
      let m = meeting tables room vs n light deep solves are in
      average_order x (rw (m.count, count_is vs x.covered m.covered) some) (λ g l o. m.order g (subst (λ z. g < z) m.count l));
  loose_in_order = λ n deep light solves. average_order_near 2048 (values (loose_radiosity n tables room) light) vs (near tables room vs n light deep solves are) some;
}

pub group_averaged : (tables : List Table) (room : Room) (vs : List PointValue) (r : Ends) → ArePoints tables room vs → 0 < open_total vs
    → r.lo ≡ pos (average_low vs) → r.hi ≡ pos (average_high vs) → average_low vs ≤ average_high vs → IsGroupAverage tables room r
group_averaged tables room vs r are some low high order =
    let P : ℤ → Type 0 = λ z. IsGroupAverage tables room (record { lo = z; hi = r.hi }) in
    let Q : ℤ → Type 0 = λ z. IsGroupAverage tables room (record { lo = pos (average_low vs); hi = z }) in
    subst P (sym low) (subst Q (sym high) (averaged tables room vs are some order))
