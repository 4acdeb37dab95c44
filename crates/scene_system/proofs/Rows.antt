-- Row sums in ticks against the row sums of the coefficients.
use Rattle.std.proofs.Common.{ℕ, zero, suc, ◌+◌, ◌<◌, ◌≤◌, ◌≡◌, refl, ap, ◌∙◌, List, [], ◌∷◌, length, get_or, sum_by, arith, lit≤, lit<}
use Rattle.std.proofs.lemmas.List.Elements.{All-get_or}
use Rattle.std.proofs.lemmas.List.Sums.{sum_by-cons}
use Rattle.fx_base.specs.declared.Weight.{Weight}
use Rattle.fx_base.specs.Fraction.{Fraction, ◌≤ᶠ◌, ◌<ᶠ◌, ◌+ᶠ◌, ◌*ᶠ◌, ratio, whole, half_power, sum_to}
use Rattle.fx_base.specs.Interval.{InOrder, LiesIn}
use Rattle.fx_base.specs.Units.{ticks}
use Rattle.fx_base.proofs.Order.{le_refl_f, le_trans_f, le_lt_trans_f, add_le_f, add_right_f, mul_le_f, zero_le_f}
use Rattle.fx_base.proofs.Ratios.{whole_le}
use Rattle.fx_base.proofs.Sums.{sum_to_le, sum_to_add, sum_to_most, ticks_le, ticks_split, ticks_join, ticks_whole}
use Rattle.interval_system.specs.Radiosity.{Enclosures, AreRowsBelowOne}
use Rattle.interval_system.specs.Equations.{RowsBelowOne}
use Rattle.interval_system.specs.Whole.{total}
use Rattle.interval_system.proofs.Totals.{total-first, sum_by-total}
use Rattle.interval_system.specs.System.{IsSystem, NoneHeavy, no_weight, weight_at, high_weight, upper_total}
use Rattle.room_layout.specs.Accepted.{IsAccepted}
use Rattle.room_layout.specs.Place.{Place}
use Rattle.room_layout.specs.declared.geometry.Face.{Face}
use Rattle.room_layout.specs.declared.geometry.Face.TheVariants.{Up}
use Rattle.room_layout.specs.declared.room.Room.{Room}
use Rattle.form_factor.proofs.Coefficients.{narrows, close_of}
use Rattle.scene_system.specs.Assembled.{Numbers, point_weight, HasNearWeights, HasWeightsOf, IsWellFormed, IsWeightAt}
use Rattle.scene_system.specs.RowSums.{row_sum, slack, RowsStayBelowOne}
use Rattle.scene_system.specs.Scene.{patch_count, patch_of, patch_place, patch_face, task_point_place, coefficient_at, loose_coefficient_at, radiosity, loose_radiosity}
use Rattle.sight_line.specs.Sight.{is_clear}
use Rattle.scene_system.proofs.Orders.{coefficient_order, loose_coefficient_order, patch_reaches}

-- ---- sums of ticks and of fractions

pub ticks_total_below : (n : ℕ) (t : ℕ → ℕ) (f : ℕ → Fraction) → ((j : ℕ) → j < n → ticks (t j) ≤ᶠ f j) → ticks (total n t) ≤ᶠ sum_to n f
unfolding sum_to
ticks_total_below zero t f h = ticks_whole 0
ticks_total_below (suc n) t f h =
    le_trans_f (ticks_split (total n t) (t n)) (add_le_f (ticks_total_below n t f (λ j l. h j (omega arith))) (h n (omega arith)))

pub ticks_total_above : (n : ℕ) (t : ℕ → ℕ) (f : ℕ → Fraction) → ((j : ℕ) → j < n → f j ≤ᶠ ticks (t j)) → sum_to n f ≤ᶠ ticks (total n t)
unfolding sum_to
ticks_total_above zero t f h = zero_le_f (ticks 0)
ticks_total_above (suc n) t f h =
    le_trans_f (add_le_f (ticks_total_above n t f (λ j l. h j (omega arith))) (h n (omega arith))) (ticks_join (total n t) (t n))

-- each number more by c
pub sum_to_more : (n : ℕ) (c : Fraction) (f : ℕ → Fraction) → sum_to n (λ j. f j +ᶠ c) ≤ᶠ (sum_to n f +ᶠ (whole n *ᶠ c))
sum_to_more n c f =
    le_trans_f (sum_to_add n f (λ j. c)) (add_le_f (le_refl_f (sum_to n f)) (sum_to_most n c (λ j. c) (λ j l. le_refl_f c)))

-- at most 2,048 numbers, each at most a millionth above ticks that add up to at most 255/256
below_one : (ticks 68451041280 +ᶠ (whole 2048 *ᶠ ratio 1 1000000)) <ᶠ whole 1
unfolding ticks whole ratio ◌+ᶠ◌ ◌*ᶠ◌
below_one = record { cross = lit< tt }

pub sum_below_one : (n : ℕ) (t : ℕ → ℕ) (f : ℕ → Fraction) → n ≤ 2048 → total n t ≤ 68451041280
    → ((j : ℕ) → j < n → f j ≤ᶠ (ticks (t j) +ᶠ ratio 1 1000000)) → sum_to n f <ᶠ whole 1
sum_below_one n t f few light h =
    le_lt_trans_f
    (le_trans_f (sum_to_le n f (λ j. ticks (t j) +ᶠ ratio 1 1000000) h)
    (le_trans_f (sum_to_more n (ratio 1 1000000) (λ j. ticks (t j)))
    (add_le_f (le_trans_f (ticks_total_above n t (λ j. ticks (t j)) (λ j l. le_refl_f (ticks (t j)))) (ticks_le (total n t) 68451041280 light))
    (mul_le_f (whole_le n 2048 few) (le_refl_f (ratio 1 1000000))))))
    below_one

-- ---- the rows of a scene

-- the first n of a list, or more, where what is beyond it counts 0
total-at-most : {X : Type 0} (f : X → ℕ) (xs : List X) (d : X) (n : ℕ) → f d ≡ 0 → total n (λ j. f (get_or xs j d)) ≤ sum_by f xs
total-at-most f xs d zero e = omega arith
total-at-most f [] d (suc n) e = omega (arith, total-at-most f [] d n e, e)
total-at-most f (x ∷ xs) d (suc n) e =
    omega (arith, total-first n (λ j. f (get_or (x ∷ xs) j d)), total-at-most f xs d n e, sum_by-cons f x xs)

pub rows_are : (room : Room) (s : Numbers) → IsWellFormed s → HasWeightsOf room s → length s.system.rows ≡ patch_count room
rows_are room s formed scene = formed.size ∙ ap length scene.patches_are

pub few_patches : (room : Room) (s : Numbers) → IsWellFormed s → HasWeightsOf room s → patch_count room ≤ 2048
few_patches room s formed scene = let few = formed.few_patches in let e : length s.patches ≡ patch_count room = ap length scene.patches_are in omega arith

pub row-total : (room : Room) (s : Numbers) → IsSystem s.system → IsWellFormed s → HasWeightsOf room s → (i : ℕ) → i < patch_count room
    → upper_total (get_or s.system.rows i []) ≡ total (patch_count room) (high_weight s.system i)
row-total room s y formed scene i l =
    let rows : length s.system.rows ≡ patch_count room = rows_are room s formed scene in
    let square : length (get_or s.system.rows i []) ≡ length s.system.rows =
    All-get_or (λ row. length row ≡ length s.system.rows) s.system.rows i [] (omega arith) y.square in
    sum_by-total (λ (w : Weight). w.hi) (get_or s.system.rows i []) no_weight ∙ ap (λ (n : ℕ). total n (high_weight s.system i)) (square ∙ rows)

-- ---- weights against coefficients

five_ticks : ticks 5 ≤ᶠ half_power 32
unfolding ticks half_power
five_ticks = record { cross = lit≤ tt }

pub weight_below : (n : ℕ) (room : Room) (s : Numbers) (i j : ℕ) → HasWeightsOf room s → i < patch_count room → j < patch_count room
    → ticks (high_weight s.system i j) ≤ᶠ ((coefficient_at n room (patch_place room i) (patch_face room i) j).hi +ᶠ half_power 32)
weight_below n room s i j scene k l =
    let w : IsWeightAt room (patch_place room i) (patch_face room i) j (weight_at s.system i j) = scene.patch_weights i j k l in
    le_trans_f (ticks_le (weight_at s.system i j).hi ((weight_at s.system i j).lo + 5) w.narrow)
    (le_trans_f (ticks_split (weight_at s.system i j).lo 5) (add_le_f (w.low n) five_ticks))

pub weight_above : (n : ℕ) (room : Room) (s : Numbers) (i j : ℕ) → HasWeightsOf room s → i < patch_count room → j < patch_count room
    → (coefficient_at n room (patch_place room i) (patch_face room i) j).lo ≤ᶠ ticks (high_weight s.system i j)
weight_above n room s i j scene k l = (scene.patch_weights i j k l).high n

-- a weight lies within the loose coefficient
pub weight_close : (n : ℕ) (room : Room) (p : Place) (face : Face) (j : ℕ) (w : Weight) → IsWeightAt room p face j w
    → LiesIn (record { lo = ticks w.lo; hi = ticks w.hi }) (loose_coefficient_at n room p face j)
weight_close n room p face j w is = close_of p face (patch_of room j) (is_clear room p (patch_place room j)) w is n

pub near_weights : (room : Room) (s : Numbers) → HasWeightsOf room s → HasNearWeights room s
near_weights room s scene = record {
  weights = λ n i j a b. weight_close n room (patch_place room i) (patch_face room i) j (weight_at s.system i j) (scene.patch_weights i j a b);
  point_weights = λ n g j a b. weight_close n room (task_point_place room g) Up j (point_weight s g j) (scene.point_weights g j a b);
}

-- ---- row sums against each other

pub row_below : (n : ℕ) (room : Room) (s : Numbers) (i : ℕ) → HasWeightsOf room s → i < patch_count room
    → ticks (total (patch_count room) (high_weight s.system i)) ≤ᶠ ((row_sum n room i).hi +ᶠ slack room)
row_below n room s i scene k =
    le_trans_f
    (ticks_total_below (patch_count room) (high_weight s.system i) (λ j. (coefficient_at n room (patch_place room i) (patch_face room i) j).hi +ᶠ half_power 32)
    (λ j l. weight_below n room s i j scene k l))
    (sum_to_more (patch_count room) (half_power 32) (λ j. (coefficient_at n room (patch_place room i) (patch_face room i) j).hi))

pub row_above : (n : ℕ) (room : Room) (s : Numbers) (i : ℕ) → HasWeightsOf room s → i < patch_count room
    → (row_sum n room i).lo ≤ᶠ ticks (total (patch_count room) (high_weight s.system i))
row_above n room s i scene k =
    ticks_total_above (patch_count room) (high_weight s.system i) (λ j. (coefficient_at n room (patch_place room i) (patch_face room i) j).lo)
    (λ j l. weight_above n room s i j scene k l)

-- ---- upper ends from depth 2

fine_below_millionth : ratio 1 2400000 ≤ᶠ ratio 1 1000000
unfolding ratio
fine_below_millionth = record { cross = lit≤ tt }

loose_below_millionth : (ratio 1 2400000 +ᶠ half_power 32) ≤ᶠ ratio 1 1000000
unfolding ratio half_power ◌+ᶠ◌
loose_below_millionth = record { cross = lit≤ tt }

pub upper_close : (n : ℕ) (room : Room) (s : Numbers) (i j : ℕ) → IsAccepted room → HasWeightsOf room s → 2 ≤ n → i < patch_count room → j < patch_count room
    → (coefficient_at n room (patch_place room i) (patch_face room i) j).hi ≤ᶠ (ticks (high_weight s.system i j) +ᶠ ratio 1 2400000)
upper_close n room s i j accepted scene deep k l =
    let patch = patch_reaches room j accepted l in
    le_trans_f
    (narrows n (patch_place room i) (patch_face room i) (patch_of room j) (is_clear room (patch_place room i) (patch_place room j)) deep patch.some (let dull = patch.reflect in omega arith))
    (add_le_f (weight_above n room s i j scene k l) (le_refl_f (ratio 1 2400000)))

loose_close : (k c : Fraction) → k ≤ᶠ (c +ᶠ ratio 1 2400000) → (k +ᶠ half_power 32) ≤ᶠ (c +ᶠ ratio 1 1000000)
loose_close k c h =
    le_trans_f (add_le_f h (le_refl_f (half_power 32)))
    (le_trans_f (add_right_f c (ratio 1 2400000) (half_power 32)) (add_le_f (le_refl_f c) loose_below_millionth))

pub light_row : (room : Room) (s : Numbers) → IsWellFormed s → HasWeightsOf room s → NoneHeavy s.system.rows
    → (i : ℕ) → i < patch_count room → total (patch_count room) (high_weight s.system i) ≤ 68451041280
light_row room s formed scene none i k =
    let rows : length s.system.rows ≡ patch_count room = rows_are room s formed scene in
    let light : upper_total (get_or s.system.rows i []) ≤ 68451041280 = All-get_or (λ row. upper_total row ≤ 68451041280) s.system.rows i [] (omega arith) none in
    omega (arith, light, total-at-most (λ (w : Weight). w.hi) (get_or s.system.rows i []) no_weight (patch_count room) refl)

-- where the upper ends stay below one, the lower ends do
both_below : (s : Enclosures) → ((i j : ℕ) → i < s.size → j < s.size → InOrder (s.coefficient i j)) → RowsBelowOne s.size (λ i j. (s.coefficient i j).hi) → AreRowsBelowOne s
both_below s order upper = record {
  lower = record {
    row = λ i l. le_lt_trans_f (sum_to_le s.size (λ j. (s.coefficient i j).lo) (λ j. (s.coefficient i j).hi) (λ j m. order i j l m)) (upper.row i l);
  };
  upper = upper;
}

pub rows_below : RowsStayBelowOne
rows_below tables room s n accepted formed scene none deep = (
  both_below (radiosity n tables room).patches (λ i j k l. coefficient_order n room (patch_place room i) (patch_face room i) j accepted l) (record {
    row = λ i k. sum_below_one (patch_count room) (high_weight s.system i) (λ j. (coefficient_at n room (patch_place room i) (patch_face room i) j).hi)
        (few_patches room s formed scene) (light_row room s formed scene none i k)
        (λ j l. le_trans_f (upper_close n room s i j accepted scene deep k l) (add_le_f (le_refl_f (ticks (high_weight s.system i j))) fine_below_millionth));
  }),
  both_below (loose_radiosity n tables room).patches (λ i j k l. loose_coefficient_order n room (patch_place room i) (patch_face room i) j accepted l) (record {
    row = λ i k. sum_below_one (patch_count room) (high_weight s.system i) (λ j. (loose_coefficient_at n room (patch_place room i) (patch_face room i) j).hi)
        (few_patches room s formed scene) (light_row room s formed scene none i k)
        (λ j l. loose_close (coefficient_at n room (patch_place room i) (patch_face room i) j).hi (ticks (high_weight s.system i j)) (upper_close n room s i j accepted scene deep k l));
  }),
)
