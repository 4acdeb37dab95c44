-- The values of a scene of a room, with bounds of the light of its patches, are those of the room.
use Rattle.std.proofs.Common.{ℕ, zero, suc, ◌+◌, ◌*◌, ◌^◌, ◌<◌, ◌≤◌, ◌≡◌, sym, ap, ◌∙◌, subst, List, length, get_or, inl, inr, arith}
use Rattle.std.specs.Prelude.{ℤ, slice_index_or}
use Rattle.std.proofs.Math.Nat.{mul-le-mul}
use Rattle.std.proofs.lemmas.Int.{ints}
use Rattle.std.proofs.lemmas.List.Elements.{All-get_or}
use Rattle.fx_base.specs.declared.Tick.{Tick}
use Rattle.fx_base.specs.Fraction.{◌≤ᶠ◌, ◌+ᶠ◌, ratio}
use Rattle.fx_base.specs.Interval.{LiesIn, outward}
use Rattle.fx_base.specs.Units.{natural, ticks}
use Rattle.fx_base.proofs.Order.{le_add_f}
use Rattle.fx_base.proofs.Rounding.{natural-mono, natural_most}
use Rattle.fx_base.proofs.SearchLaws.{is_true_or_false}
use Rattle.interval_system.specs.Equations.{RowsBelowOne}
use Rattle.interval_system.specs.Radiosity.{Light, IsLightOf, value, values}
use Rattle.interval_system.specs.System.{IsDirectLight, NoneHeavy, no_light, weight_at, low_weight, high_weight, low_direct, high_direct}
use Rattle.interval_system.specs.Whole.{total}
use Rattle.radiosity_solve.specs.Bounds.{IsEnd, IsLowerAnswer, IsUpperAnswer, IsInOrder, no_tick, tick_at, ticks_solution}
use Rattle.radiosity_solve.specs.Shown.{IsShownLower, IsShownUpper}
use Rattle.fx_base.specs.Rounded.{down_to, up_to}
use Rattle.interval_system.proofs.Totals.{total-le}
use Rattle.room_layout.specs.Accepted.{IsAccepted}
use Rattle.room_layout.specs.declared.room.Room.{Room}
use Rattle.room_layout.specs.declared.geometry.Face.TheVariants.{Up}
use Rattle.photo_table.specs.Table.{Table}
use Rattle.scene_system.specs.Assembled.{Numbers, IsSceneOf, IsWellFormed, point_weight, point_light}
use Rattle.scene_system.specs.Scene.{patch_count, patch_place, patch_face, task_point_place, no_task_point, radiosity, loose_radiosity}
use Rattle.scene_system.proofs.Orders.{in_order}
use Rattle.scene_system.proofs.Rows.{rows_below, rows_are, few_patches, light_row, sum_below_one, weight_close}
use Rattle.scene_system.specs.ValueLaws.{ValuesArePoints}
use Rattle.scene_system.specs.PointValues.{IsValueOf, IsPoint, lower_value, upper_value}
use Rattle.scene_system.specs.declared.value.PointValue.{PointValue}
use Rattle.scene_system.proofs.PointOrder.{value_order}
use Rattle.scene_system.proofs.Near.{meets_above, meets_below, near_below, near_above}

-- ---- what is given: a scene of the room without a heavy row, and bounds of the light of its patches

record IsBounded (tables : List Table) (room : Room) (s : Numbers) (lower upper : List Tick) : Type 0 where
  accepted : IsAccepted room
  formed : IsWellFormed s
  scene : IsSceneOf tables room s
  light : NoneHeavy s.system.rows
  lower_is : IsLowerAnswer s.system lower
  upper_is : IsUpperAnswer s.system upper
  ordered : IsInOrder s.system lower upper

patches_are : (tables : List Table) (room : Room) (s : Numbers) → IsSceneOf tables room s → length s.patches ≡ patch_count room
patches_are tables room s scene = ap length scene.weights.patches_are

-- ---- the bounds, for as many patches as the room has

lower_shown : (tables : List Table) (room : Room) (s : Numbers) (lower upper : List Tick) → IsBounded tables room s lower upper
    → IsShownLower (patch_count room) (2 ^ 36) (low_weight s.system) (low_direct s.system) (tick_at lower)
lower_shown tables room s lower upper b =
    subst (λ (m : ℕ). IsShownLower m (2 ^ 36) (low_weight s.system) (low_direct s.system) (tick_at lower)) (rows_are room s b.formed b.scene.weights) b.lower_is.shown

upper_shown : (tables : List Table) (room : Room) (s : Numbers) (lower upper : List Tick) → IsBounded tables room s lower upper
    → IsShownUpper (patch_count room) (2 ^ 36) (high_weight s.system) (high_direct s.system) (tick_at upper)
upper_shown tables room s lower upper b =
    subst (λ (m : ℕ). IsShownUpper m (2 ^ 36) (high_weight s.system) (high_direct s.system) (tick_at upper)) (rows_are room s b.formed b.scene.weights) b.upper_is.shown

lower_close : (tables : List Table) (room : Room) (s : Numbers) (lower upper : List Tick) → IsBounded tables room s lower upper → (i : ℕ) → i < patch_count room
    → ticks_solution (patch_count room) (low_weight s.system) (low_direct s.system) i ≤ᶠ (ticks (tick_at lower i) +ᶠ ratio 1 10000)
lower_close tables room s lower upper b =
    subst (λ (m : ℕ). (i : ℕ) → i < m → ticks_solution m (low_weight s.system) (low_direct s.system) i ≤ᶠ (ticks (tick_at lower i) +ᶠ ratio 1 10000))
    (rows_are room s b.formed b.scene.weights) b.lower_is.near

upper_close : (tables : List Table) (room : Room) (s : Numbers) (lower upper : List Tick) → IsBounded tables room s lower upper → (i : ℕ) → i < patch_count room
    → ticks (tick_at upper i) ≤ᶠ (ticks_solution (patch_count room) (high_weight s.system) (high_direct s.system) i +ᶠ ratio 1 10000)
upper_close tables room s lower upper b =
    subst (λ (m : ℕ). (i : ℕ) → i < m → ticks (tick_at upper i) ≤ᶠ (ticks_solution m (high_weight s.system) (high_direct s.system) i +ᶠ ratio 1 10000))
    (rows_are room s b.formed b.scene.weights) b.upper_is.near

low_rows : (tables : List Table) (room : Room) (s : Numbers) (lower upper : List Tick) → IsBounded tables room s lower upper
    → RowsBelowOne (patch_count room) (λ i j. ticks (low_weight s.system i j))
low_rows tables room s lower upper b = record {
  row = λ i k. sum_below_one (patch_count room) (low_weight s.system i) (λ j. ticks (low_weight s.system i j)) (few_patches room s b.formed b.scene.weights)
      (omega (
        arith,
        light_row room s b.formed b.scene.weights b.light i k,
        total-le (patch_count room) (low_weight s.system i) (high_weight s.system i) (λ j l. (b.scene.weights.patch_weights i j k l).order),
      ))
      (λ j l. le_add_f (ticks (low_weight s.system i j)) (ratio 1 1000000));
}

-- ---- weights and spans within the loose numbers

pub patch_weight_close : (n : ℕ) (tables : List Table) (room : Room) (s : Numbers) (i j : ℕ) → IsSceneOf tables room s → i < patch_count room → j < patch_count room
    → LiesIn (record { lo = ticks (low_weight s.system i j); hi = ticks (high_weight s.system i j) }) ((loose_radiosity n tables room).patches.coefficient i j)
patch_weight_close n tables room s i j scene k l =
    weight_close n room (patch_place room i) (patch_face room i) j (weight_at s.system i j) (scene.weights.patch_weights i j k l)

point_weight_close : (n : ℕ) (tables : List Table) (room : Room) (s : Numbers) (g j : ℕ) → IsSceneOf tables room s → g < length s.points → j < patch_count room
    → LiesIn (record { lo = ticks (point_weight s g j).lo; hi = ticks (point_weight s g j).hi }) ((loose_radiosity n tables room).coefficient g j)
point_weight_close n tables room s g j scene k l =
    weight_close n room (task_point_place room g) Up j (point_weight s g j) (scene.weights.point_weights g j k l)

-- ---- the sums at point g meet the exact value

lower_meets : (tables : List Table) (room : Room) (s : Numbers) (lower upper : List Tick) (n g : ℕ) (light : Light) → IsBounded tables room s lower upper → 2 ≤ n → IsLightOf (radiosity n tables room).patches light → g < length s.points
    → ticks (lower_value s lower g) ≤ᶠ (value (radiosity n tables room) light g).hi
lower_meets tables room s lower upper n g light b deep is inside =
    subst (λ (m : ℕ). ticks (natural (point_light s g).lo + total m (λ j. down_to (2 ^ 36) ((point_weight s g j).lo * tick_at lower j))) ≤ᶠ (value (radiosity n tables room) light g).hi)
    (sym (patches_are tables room s b.scene))
    (meets_above (radiosity n tables room) light g (low_weight s.system) (low_direct s.system) (tick_at lower) (λ j. (point_weight s g j).lo) (natural (point_light s g).lo)
    is ((rows_below tables room s n b.accepted b.formed b.scene.weights b.light deep).0)
    (λ i j k l. (b.scene.weights.patch_weights i j k l).low n) (λ i k. ((b.scene.lights i k).meets n).above) (lower_shown tables room s lower upper b)
    (λ j l. (b.scene.weights.point_weights g j inside l).low n) ((b.scene.point_lights g inside).meets n).above)

upper_meets : (tables : List Table) (room : Room) (s : Numbers) (lower upper : List Tick) (n g : ℕ) (light : Light) → IsBounded tables room s lower upper → 2 ≤ n → IsLightOf (radiosity n tables room).patches light → g < length s.points
    → (value (radiosity n tables room) light g).lo ≤ᶠ ticks (upper_value s upper g)
upper_meets tables room s lower upper n g light b deep is inside =
    subst (λ (m : ℕ). (value (radiosity n tables room) light g).lo ≤ᶠ ticks (natural (point_light s g).hi + total m (λ j. up_to (2 ^ 36) ((point_weight s g j).hi * tick_at upper j))))
    (sym (patches_are tables room s b.scene))
    (meets_below (radiosity n tables room) light g (high_weight s.system) (high_direct s.system) (tick_at upper) (λ j. (point_weight s g j).hi) (natural (point_light s g).hi)
    is ((rows_below tables room s n b.accepted b.formed b.scene.weights b.light deep).0)
    (λ i j k l. (b.scene.weights.patch_weights i j k l).high n) (λ i k. ((b.scene.lights i k).meets n).below) (upper_shown tables room s lower upper b)
    (λ j l. (b.scene.weights.point_weights g j inside l).high n) ((b.scene.point_lights g inside).meets n).below)

-- ---- and are near the loose one

lower_near : (tables : List Table) (room : Room) (s : Numbers) (lower upper : List Tick) (n g : ℕ) (light : Light) → IsBounded tables room s lower upper → 2 ≤ n → IsLightOf (loose_radiosity n tables room).patches light → g < length s.points
    → (outward (ticks 2048) (value (loose_radiosity n tables room) light g)).lo ≤ᶠ ticks (lower_value s lower g)
lower_near tables room s lower upper n g light b deep is inside =
    subst (λ (m : ℕ). (outward (ticks 2048) (value (loose_radiosity n tables room) light g)).lo
    ≤ᶠ ticks (natural (point_light s g).lo + total m (λ j. down_to (2 ^ 36) ((point_weight s g j).lo * tick_at lower j))))
    (sym (patches_are tables room s b.scene))
    (near_below (loose_radiosity n tables room) light g (low_weight s.system) (low_direct s.system) (tick_at lower) (λ j. (point_weight s g j).lo) (natural (point_light s g).lo)
    (few_patches room s b.formed b.scene.weights) is ((rows_below tables room s n b.accepted b.formed b.scene.weights b.light deep).1) (low_rows tables room s lower upper b)
    (λ i j k l. (patch_weight_close n tables room s i j b.scene k l).lower) (λ i k. ((b.scene.lights i k).near n).lower) (lower_close tables room s lower upper b)
    (λ j l. (point_weight_close n tables room s g j b.scene inside l).lower) ((b.scene.point_lights g inside).near n).lower)

upper_near : (tables : List Table) (room : Room) (s : Numbers) (lower upper : List Tick) (n g : ℕ) (light : Light) → IsBounded tables room s lower upper → 2 ≤ n → IsLightOf (loose_radiosity n tables room).patches light → g < length s.points
    → ticks (upper_value s upper g) ≤ᶠ (outward (ticks 2048) (value (loose_radiosity n tables room) light g)).hi
upper_near tables room s lower upper n g light b deep is inside =
    subst (λ (m : ℕ). ticks (natural (point_light s g).hi + total m (λ j. up_to (2 ^ 36) ((point_weight s g j).hi * tick_at upper j)))
    ≤ᶠ (outward (ticks 2048) (value (loose_radiosity n tables room) light g)).hi)
    (sym (patches_are tables room s b.scene))
    (near_above (loose_radiosity n tables room) light g (high_weight s.system) (high_direct s.system) (tick_at upper) (λ j. (point_weight s g j).hi) (natural (point_light s g).hi)
    (few_patches room s b.formed b.scene.weights) is ((rows_below tables room s n b.accepted b.formed b.scene.weights b.light deep).1)
    (λ i j k l. (patch_weight_close n tables room s i j b.scene k l).upper) (λ i k. ((b.scene.lights i k).near n).upper) (upper_close tables room s lower upper b)
    (λ j l. (point_weight_close n tables room s g j b.scene inside l).upper) ((b.scene.point_lights g inside).near n).upper)

-- ---- the sums are in order, and not too large

down_most_up : (a b x y : ℕ) → a ≤ b → x ≤ y → down_to (2 ^ 36) (a * x) ≤ up_to (2 ^ 36) (b * y)
unfolding down_to up_to
down_most_up a b x y h g = omega (arith, mul-le-mul {n₁ = a} {m₁ = x} {n₂ = b} {m₂ = y} h g)

up_most : (b y : ℕ) → b ≤ 2 ^ 36 → y ≤ 2 ^ 90 → up_to (2 ^ 36) (b * y) ≤ 2 ^ 90
unfolding up_to
up_most b y h g = omega (arith, mul-le-mul {n₁ = b} {m₁ = y} {n₂ = 2 ^ 36} {m₂ = 2 ^ 90} h g)

total_most : (n c : ℕ) (f : ℕ → ℕ) → ((j : ℕ) → j < n → f j ≤ c) → total n f ≤ n * c
total_most zero c f h = omega arith
total_most (suc n) c f h = omega (arith, total_most n c f (λ j l. h j (omega arith)), h n (omega arith))

light_is : (s : Numbers) (g : ℕ) → IsWellFormed s → g < length s.points → IsDirectLight (point_light s g)
light_is s g formed inside = let lights = formed.lights in All-get_or IsDirectLight s.point_direct g no_light (omega arith) formed.each_light

bound_most : (tables : List Table) (room : Room) (s : Numbers) (lower upper : List Tick) (j : ℕ) → IsBounded tables room s lower upper → j < patch_count room → tick_at upper j ≤ 2 ^ 90
bound_most tables room s lower upper j b l =
    let size = b.upper_is.size in
    let rows = rows_are room s b.formed b.scene.weights in
    natural_most (get_or upper j no_tick).0 (2 ^ 90) (All-get_or IsEnd upper j no_tick (omega arith) b.upper_is.in_range).high

values_in_order : (tables : List Table) (room : Room) (s : Numbers) (lower upper : List Tick) (g : ℕ) → IsBounded tables room s lower upper → g < length s.points
    → lower_value s lower g ≤ upper_value s upper g
values_in_order tables room s lower upper g b inside =
    let d = light_is s g b.formed inside in
    let rows = rows_are room s b.formed b.scene.weights in
    let patches = patches_are tables room s b.scene in
    omega (
      arith,
      natural-mono (point_light s g).lo (point_light s g).hi d.low d.in_order,
      total-le (length s.patches) (λ j. down_to (2 ^ 36) ((point_weight s g j).lo * tick_at lower j)) (λ j. up_to (2 ^ 36) ((point_weight s g j).hi * tick_at upper j))
          (λ j l. down_most_up (point_weight s g j).lo (point_weight s g j).hi (tick_at lower j) (tick_at upper j)
          (b.scene.weights.point_weights g j inside (omega arith)).order (b.ordered.at j (omega arith))),
    )

value_most : (tables : List Table) (room : Room) (s : Numbers) (lower upper : List Tick) (g : ℕ) → IsBounded tables room s lower upper → g < length s.points
    → upper_value s upper g ≤ 2 ^ 102
value_most tables room s lower upper g b inside =
    let d = light_is s g b.formed inside in
    let few = b.formed.few_patches in
    let patches = patches_are tables room s b.scene in
    omega (
      arith,
      natural_most (point_light s g).hi (2 ^ 82) d.most,
      total_most (length s.patches) (2 ^ 90) (λ j. up_to (2 ^ 36) ((point_weight s g j).hi * tick_at upper j))
          (λ j l. up_most (point_weight s g j).hi (tick_at upper j) (b.scene.weights.point_weights g j inside (omega arith)).most
          (bound_most tables room s lower upper j b (omega arith))),
    )

-- ---- the value at a point

point_is : (tables : List Table) (room : Room) (s : Numbers) (lower upper : List Tick) (g : ℕ) (v : PointValue) → IsBounded tables room s lower upper → g < length s.points
    → IsValueOf s lower upper g v → IsPoint tables room g v
unfolding values
point_is tables room s lower upper g v b inside is =
    record {
      covered_is = is.covered_is ∙ ap (λ (points : List _). (slice_index_or points g no_task_point).covered) b.scene.weights.points_are;
      meets = λ seen n deep light solves. record {
        above = subst (λ (z : ℤ). ticks (natural z) ≤ᶠ (value (radiosity n tables room) light g).hi) (sym (is.low seen)) (lower_meets tables room s lower upper n g light b deep solves inside);
        below = subst (λ (z : ℤ). (value (radiosity n tables room) light g).lo ≤ᶠ ticks (natural z)) (sym (is.high seen)) (upper_meets tables room s lower upper n g light b deep solves inside);
      };
      near = λ seen n deep light solves. record {
        lower = subst (λ (z : ℤ). (outward (ticks 2048) (value (loose_radiosity n tables room) light g)).lo ≤ᶠ ticks (natural z)) (sym (is.low seen)) (lower_near tables room s lower upper n g light b deep solves inside);
        upper = subst (λ (z : ℤ). ticks (natural z) ≤ᶠ (outward (ticks 2048) (value (loose_radiosity n tables room) light g)).hi) (sym (is.high seen)) (upper_near tables room s lower upper n g light b deep solves inside);
      };
      low = elim (is_true_or_false v.covered) [
        | inl c ↦ rw (is.nothing c) (omega (arith, ints))
        | inr c ↦ rw (is.low c) (omega (arith, ints))
      ];
      order = elim (is_true_or_false v.covered) [
        | inl c ↦ rw (is.nothing c) (omega (arith, ints))
        | inr c ↦ rw (is.low c, is.high c) (let o = values_in_order tables room s lower upper g b inside in omega (arith, ints, o))
      ];
      high = elim (is_true_or_false v.covered) [
        | inl c ↦ rw (is.nothing c) (omega arith)
        | inr c ↦ rw (is.high c) (value_most tables room s lower upper g b inside)
      ];
    }

pub values_are_points : ValuesArePoints
unfolding values
values_are_points tables room s lower upper values accepted exact formed scene light lower_is upper_is ordered are =
    let b : IsBounded tables room s lower upper =
    record { accepted = accepted; formed = formed; scene = scene; light = light; lower_is = lower_is; upper_is = upper_is; ordered = ordered } in
    let count : length values ≡ room.task.nx * room.task.ny = are.count ∙ scene.weights.point_count in
    record {
      count = count;
      each = λ g d inside. point_is tables room s lower upper g (slice_index_or values g d) b (let c = are.count in omega (arith, c, inside)) (are.each g d inside);
      rows = λ n deep. (rows_below tables room s n accepted formed scene.weights light deep).0;
      loose_rows = λ n deep. (rows_below tables room s n accepted formed scene.weights light deep).1;
      order = λ g inside n deep own solves. value_order (radiosity n tables room) own g solves ((rows_below tables room s n accepted formed scene.weights light deep).0) ((in_order n tables room accepted exact).0) (omega (arith, count, inside));
      loose_order = λ g inside n deep own solves. value_order (loose_radiosity n tables room) own g solves ((rows_below tables room s n accepted formed scene.weights light deep).1) ((in_order n tables room accepted exact).1) (omega (arith, count, inside));
    }
