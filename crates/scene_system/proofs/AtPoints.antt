-- The values at the task points of a scene.
use Rattle.std.proofs.Common.{ℕ, suc, ◌+◌, ◌*◌, ◌^◌, ◌<◌, ◌≤◌, ◌≡◌, ◌∙◌, Bool, true, false, if◌then◌else◌, List, [], ◌∷◌, All, length, arith, refl, sym, ap}
use Rattle.std.specs.Prelude.{slice_index_or, ℤ, pos, ◌≤ℤ◌, count_by}
use borrow.Author.Differences.{ints}
use Rattle.std.proofs.Math.Nat.{mul-le-mul}
use Rattle.std.proofs.lemmas.List.{get_or_default}
use Rattle.std.proofs.lemmas.List.Sums.{sum_by-cons}
use Rattle.fx_base.specs.Ends.{Ends}
use Rattle.fx_base.specs.Units.{natural}
use Rattle.fx_base.specs.declared.Tick.{Tick}
use Rattle.fx_base.specs.declared.Weight.{Weight}
use Rattle.fx_base.proofs.Rounding.{natural-mono}
use Rattle.interval_system.specs.System.{no_weight, no_light, IsDirectLight, IsRow, IsWeight}
use Rattle.patch_mesh.specs.declared.patch.TaskPoint.{TaskPoint}
use Rattle.interval_system.specs.Ticks.{tick_at}
use Rattle.fx_base.specs.Rounded.{down_to, up_to}
use Rattle.interval_system.proofs.Totals.{total-le}
use Rattle.scene_system.specs.Assembled.{Numbers, is_open_point, open_points, IsWellFormed}
use Rattle.scene_system.specs.Scene.{no_task_point}
use Rattle.scene_system.specs.PointValues.{lower_value, upper_value, IsValueOf}
use Rattle.interval_system.specs.Sent.{sent_low, sent_high}
use Rattle.scene_system.specs.Sums.{open_total}
use Rattle.scene_system.specs.declared.value.PointValue.{PointValue}
use Rattle.scene_system.proofs.Means.{no_point}
use Rattle.scene_system.proofs.TickMeans.{open_count-cons}
use Rattle.fx_base.proofs.Shares.{down_below_up}

-- ---- the ends are in order

-- the lower ends send no more than the upper ends
pub sent_order : (row : List Weight) (lower upper : List Tick) (n : ℕ) → n ≤ length row → All IsWeight row
    → ((j : ℕ) → j < n → tick_at lower j ≤ tick_at upper j) → sent_low row lower n ≤ sent_high row upper n
unfolding sent_low sent_high
sent_order row lower upper n few weights order = total-le n
    (λ j. down_to (2 ^ 36) ((slice_index_or row j no_weight).lo * tick_at lower j))
    (λ j. up_to (2 ^ 36) ((slice_index_or row j no_weight).hi * tick_at upper j))
    (λ j l. down_below_up ((slice_index_or row j no_weight).lo * tick_at lower j) ((slice_index_or row j no_weight).hi * tick_at upper j)
    (mul-le-mul (weights j no_weight (omega arith)).in_order (order j l)))

pub open_order : (row : List Weight) (direct : Ends) (lower upper : List Tick) → IsRow row → IsDirectLight direct
    → ((j : ℕ) → j < length row → tick_at lower j ≤ tick_at upper j)
    → natural direct.lo + sent_low row lower (length row) ≤ natural direct.hi + sent_high row upper (length row)
open_order row direct lower upper is light order =
    let one = natural-mono direct.lo direct.hi light.low light.in_order in
    let two = sent_order row lower upper (length row) (omega arith) is.each order in
    omega (arith, one, two)

pub ticks_order : (x y : ℤ) (a b : ℕ) → x ≡ pos a → y ≡ pos b → a ≤ b → x ≤ℤ y
ticks_order x y a b e f h = rw (e, f) (omega (arith, ints, h))

-- ---- a point that isn't covered

low_is : (s : Numbers) (lower : List Tick) (g : ℕ) (row : List Weight) (direct : Ends) → row ≡ slice_index_or s.point_rows g [] → direct ≡ slice_index_or s.point_direct g no_light
    → length (slice_index_or s.point_rows g []) ≡ length s.patches → natural direct.lo + sent_low row lower (length row) ≡ lower_value s lower g
unfolding sent_low
low_is s lower g row direct e f size = rw (e, f, size) refl

high_is : (s : Numbers) (upper : List Tick) (g : ℕ) (row : List Weight) (direct : Ends) → row ≡ slice_index_or s.point_rows g [] → direct ≡ slice_index_or s.point_direct g no_light
    → length (slice_index_or s.point_rows g []) ≡ length s.patches → natural direct.hi + sent_high row upper (length row) ≡ upper_value s upper g
unfolding sent_high
high_is s upper g row direct e f size = rw (e, f, size) refl

open_nothing : (b : Bool) (P : Type 0) → b ≡ false → b ≡ true → P
open_nothing true P e f = absurd (cc)
open_nothing false P e f = absurd (cc)

pub open_value_is : (s : Numbers) (lower upper : List Tick) (g : ℕ) (point : TaskPoint) (row : List Weight) (direct : Ends) (v : PointValue) → IsWellFormed s → g < length s.points
    → point ≡ slice_index_or s.points g point → point.covered ≡ false → row ≡ slice_index_or s.point_rows g row → direct ≡ slice_index_or s.point_direct g direct
    → v.covered ≡ false → v.value.lo ≡ pos (natural direct.lo + sent_low row lower (length row)) → v.value.hi ≡ pos (natural direct.hi + sent_high row upper (length row))
    → IsValueOf s lower upper g v
open_value_is s lower upper g point row direct v formed l is_point bare is_row is_direct covered low high =
    let rows = formed.rows in
    let lights = formed.lights in
    let in_rows : g < length s.point_rows = omega arith in
    let in_lights : g < length s.point_direct = omega arith in
    let same_point : point ≡ slice_index_or s.points g no_task_point = is_point ∙ get_or_default s.points g point no_task_point l in
    let same_row : row ≡ slice_index_or s.point_rows g [] = is_row ∙ get_or_default s.point_rows g row [] in_rows in
    let same_direct : direct ≡ slice_index_or s.point_direct g no_light = is_direct ∙ get_or_default s.point_direct g direct no_light in_lights in
    let size = formed.row_sizes g [] in_rows in
    record {
      covered_is = covered ∙ sym bare ∙ ap (λ (p : TaskPoint). p.covered) same_point;
      nothing = open_nothing v.covered (v.value ≡ no_light) covered;
      low = λ o. low ∙ ap pos (low_is s lower g row direct same_row same_direct size);
      high = λ o. high ∙ ap pos (high_is s upper g row direct same_row same_direct size);
    }

-- ---- how many aren't covered

points-cons : (p : TaskPoint) (ps : List TaskPoint) → count_by is_open_point (p ∷ ps) ≡ (if is_open_point p then 1 else 0) + count_by is_open_point ps
points-cons p ps = sum_by-cons (λ (q : TaskPoint). if is_open_point q then 1 else 0) p ps

pub same_count : (vs : List PointValue) (ps : List TaskPoint) → length vs ≡ length ps
    → ((g : ℕ) → g < length vs → (slice_index_or vs g no_point).covered ≡ (slice_index_or ps g no_task_point).covered) → open_total vs ≡ open_points ps
same_count [] [] e h = refl
same_count [] (p ∷ ps) e h = absurd (omega arith)
same_count (v ∷ vs) [] e h = absurd (omega arith)
same_count (v ∷ vs) (p ∷ ps) e h =
    let first : v.covered ≡ p.covered = h 0 (omega arith) in
    let more = same_count vs ps (omega arith) (λ g l. h (suc g) (omega arith)) in
    rw (open_count-cons v vs, points-cons p ps, first, more) refl
