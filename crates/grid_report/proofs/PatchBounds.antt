-- Bounds of the light of a room's patches against the light that solves its equations, exact and loose, and the margin of a claim that
-- isn't shown.
use Rattle.std.proofs.Common.{ℕ, ◌+◌, ◌*◌, ◌^◌, ◌<◌, ◌≤◌, ◌≡◌, ◌∙◌, subst, List, length, inl, inr, arith}
use Rattle.std.proofs.lemmas.Bool.{cases_lt}
use Rattle.fx_base.specs.declared.Tick.{Tick}
use Rattle.fx_base.specs.Fraction.{◌≤ᶠ◌, ◌<ᶠ◌, ◌+ᶠ◌, ◌*ᶠ◌, whole}
use Rattle.fx_base.specs.Rounded.{down_to, up_to}
use Rattle.fx_base.specs.Units.{ticks}
use Rattle.fx_base.proofs.Order.{le_refl_f, le_trans_f, le_lt_trans_f, lt_le_trans_f, add_le_f, add_lt_f, sub_le_f}
use Rattle.interval_system.specs.Equations.{RowsBelowOne}
use Rattle.interval_system.specs.Radiosity.{Light, IsLightOf}
use Rattle.interval_system.specs.System.{NoneHeavy, low_weight, high_weight, low_direct, high_direct}
use Rattle.interval_system.specs.Ticks.{tick_at}
use Rattle.interval_system.specs.Whole.{total}
use Rattle.radiosity_solve.specs.Bounds.{IsLowerAnswer, IsUpperAnswer, ticks_solution, ten_thousandth}
use Rattle.radiosity_solve.specs.Shown.{IsShownLower, IsShownUpper}
use Rattle.radiosity_solve.specs.Turn.{next_low, next_high}
use Rattle.radiosity_solve.proofs.Compose.{lower_below, upper_above, lower_within, upper_within, rows_are_below_one}
use Rattle.room_layout.specs.Accepted.{IsAccepted}
use Rattle.room_layout.specs.declared.room.Room.{Room}
use Rattle.photo_table.specs.Table.{Table}
use Rattle.scene_system.specs.Assembled.{Numbers, IsSceneOf, IsWellFormed}
use Rattle.scene_system.specs.Scene.{patch_count, radiosity, loose_radiosity}
use Rattle.scene_system.proofs.Composed.{patch_weight_close}
use Rattle.scene_system.proofs.Rows.{rows_below, rows_are}
use Rattle.grid_report.specs.BoundsLaws.{BoundsHoldLight, ShownHoldsLight, UnshownHasCause}
use Rattle.grid_report.specs.PatchBounds.{low_sum, high_sum, HoldLight, AreNearLight}
use Rattle.scene_system.proofs.Near.{lower_is, upper_is}
use Rattle.scene_system.proofs.PointSums.{lower_sum_near, upper_sum_near}

-- ---- what is given: a scene of the room without a heavy row

record IsLightScene (tables : List Table) (room : Room) (s : Numbers) : Type 0 where
  accepted : IsAccepted room
  formed : IsWellFormed s
  scene : IsSceneOf tables room s
  light : NoneHeavy s.system.rows

rows : (tables : List Table) (room : Room) (s : Numbers) → IsLightScene tables room s → length s.system.rows ≡ patch_count room
rows tables room s b = rows_are room s b.formed b.scene.weights

-- ---- bounds that the system shows meet the exact light

lower_meets : (tables : List Table) (room : Room) (s : Numbers) (lower : List Tick) (n i : ℕ) (light : Light) → IsLightScene tables room s
    → IsShownLower (length s.system.rows) (2 ^ 36) (low_weight s.system) (low_direct s.system) (tick_at lower)
    → 2 ≤ n → IsLightOf (radiosity n tables room).patches light → i < patch_count room → ticks (tick_at lower i) ≤ᶠ light.upper i
lower_meets tables room s lower n i light b shown deep is inside =
    let below = (rows_below tables room s n b.accepted b.formed b.scene.weights b.light deep).0 in
    le_trans_f
    (lower_below (patch_count room) (λ i j. ((radiosity n tables room).patches.coefficient i j).hi) (λ i. ((radiosity n tables room).patches.direct i).hi)
    (low_weight s.system) (low_direct s.system) (tick_at lower) below.upper
    (λ i j k l. (b.scene.weights.patch_weights i j k l).low n) (λ i k. ((b.scene.lights i k).meets n).above)
    (subst (λ (m : ℕ). IsShownLower m (2 ^ 36) (low_weight s.system) (low_direct s.system) (tick_at lower)) (rows tables room s b) shown) i inside)
    (upper_is (radiosity n tables room) light is below i inside)

upper_meets : (tables : List Table) (room : Room) (s : Numbers) (upper : List Tick) (n i : ℕ) (light : Light) → IsLightScene tables room s
    → IsShownUpper (length s.system.rows) (2 ^ 36) (high_weight s.system) (high_direct s.system) (tick_at upper)
    → 2 ≤ n → IsLightOf (radiosity n tables room).patches light → i < patch_count room → light.lower i ≤ᶠ ticks (tick_at upper i)
upper_meets tables room s upper n i light b shown deep is inside =
    let below = (rows_below tables room s n b.accepted b.formed b.scene.weights b.light deep).0 in
    le_trans_f
    (lower_is (radiosity n tables room) light is below i inside)
    (upper_above (patch_count room) (λ i j. ((radiosity n tables room).patches.coefficient i j).lo) (λ i. ((radiosity n tables room).patches.direct i).lo)
    (high_weight s.system) (high_direct s.system) (tick_at upper) below.lower
    (λ i j k l. (b.scene.weights.patch_weights i j k l).high n) (λ i k. ((b.scene.lights i k).meets n).below)
    (subst (λ (m : ℕ). IsShownUpper m (2 ^ 36) (high_weight s.system) (high_direct s.system) (tick_at upper)) (rows tables room s b) shown) i inside)

hold : (tables : List Table) (room : Room) (s : Numbers) (lower upper : List Tick) → IsLightScene tables room s
    → length lower ≡ length s.system.rows → length upper ≡ length s.system.rows
    → IsShownLower (length s.system.rows) (2 ^ 36) (low_weight s.system) (low_direct s.system) (tick_at lower)
    → IsShownUpper (length s.system.rows) (2 ^ 36) (high_weight s.system) (high_direct s.system) (tick_at upper)
    → HoldLight tables room lower upper
hold tables room s lower upper b lower_size upper_size low high = record {
  lower_size = lower_size ∙ rows tables room s b;
  upper_size = upper_size ∙ rows tables room s b;
  each = λ i inside n deep light is. record {
    above = lower_meets tables room s lower n i light b low deep is inside;
    below = upper_meets tables room s upper n i light b high deep is inside;
  };
}

-- ---- bounds near the solution in ticks are near the loose light

low_rows : (tables : List Table) (room : Room) (s : Numbers) → IsLightScene tables room s → RowsBelowOne (patch_count room) (λ i j. ticks (low_weight s.system i j))
low_rows tables room s b =
    subst (λ (m : ℕ). RowsBelowOne m (λ i j. ticks (low_weight s.system i j))) (rows tables room s b) (rows_are_below_one s.system b.formed.system b.light).low

lower_near : (tables : List Table) (room : Room) (s : Numbers) (lower : List Tick) (n i : ℕ) (light : Light) → IsLightScene tables room s
    → IsLowerAnswer s.system lower → 2 ≤ n → IsLightOf (loose_radiosity n tables room).patches light → i < patch_count room
    → light.lower i ≤ᶠ (ticks (tick_at lower i) +ᶠ ten_thousandth)
lower_near tables room s lower n i light b answer deep is inside =
    le_trans_f
    (lower_is (loose_radiosity n tables room) light is ((rows_below tables room s n b.accepted b.formed b.scene.weights b.light deep).1) i inside)
    (lower_within (patch_count room) (λ i j. ((loose_radiosity n tables room).patches.coefficient i j).lo) (λ i. ((loose_radiosity n tables room).patches.direct i).lo)
    (low_weight s.system) (low_direct s.system) (tick_at lower) ten_thousandth (low_rows tables room s b)
    (λ i j k l. (patch_weight_close n tables room s i j b.scene k l).lower) (λ i k. ((b.scene.lights i k).near n).lower)
    (subst (λ (m : ℕ). (i : ℕ) → i < m → ticks_solution m (low_weight s.system) (low_direct s.system) i ≤ᶠ (ticks (tick_at lower i) +ᶠ ten_thousandth))
    (rows tables room s b) answer.near) i inside)

upper_near : (tables : List Table) (room : Room) (s : Numbers) (upper : List Tick) (n i : ℕ) (light : Light) → IsLightScene tables room s
    → IsUpperAnswer s.system upper → 2 ≤ n → IsLightOf (loose_radiosity n tables room).patches light → i < patch_count room
    → ticks (tick_at upper i) ≤ᶠ (light.upper i +ᶠ ten_thousandth)
upper_near tables room s upper n i light b answer deep is inside =
    let below = (rows_below tables room s n b.accepted b.formed b.scene.weights b.light deep).1 in
    le_trans_f
    (upper_within (patch_count room) (λ i j. ((loose_radiosity n tables room).patches.coefficient i j).hi) (λ i. ((loose_radiosity n tables room).patches.direct i).hi)
    (high_weight s.system) (high_direct s.system) (tick_at upper) ten_thousandth below.upper
    (λ i j k l. (patch_weight_close n tables room s i j b.scene k l).upper) (λ i k. ((b.scene.lights i k).near n).upper)
    (subst (λ (m : ℕ). (i : ℕ) → i < m → ticks (tick_at upper i) ≤ᶠ (ticks_solution m (high_weight s.system) (high_direct s.system) i +ᶠ ten_thousandth))
    (rows tables room s b) answer.near) i inside)
    (add_le_f (upper_is (loose_radiosity n tables room) light is below i inside) (le_refl_f ten_thousandth))

near : (tables : List Table) (room : Room) (s : Numbers) (lower upper : List Tick) → IsLightScene tables room s → IsLowerAnswer s.system lower → IsUpperAnswer s.system upper
    → AreNearLight tables room lower upper
near tables room s lower upper b low high = record {
  each = λ i inside n deep light is. record {
    lower = sub_le_f (light.lower i) ten_thousandth (lower_near tables room s lower n i light b low deep is inside);
    upper = upper_near tables room s upper n i light b high deep is inside;
  };
}

pub bounds_hold_light : BoundsHoldLight
bounds_hold_light tables room s lower upper accepted exact formed scene light low high =
    let b : IsLightScene tables room s = record { accepted = accepted; formed = formed; scene = scene; light = light } in
    (hold tables room s lower upper b low.size high.size low.shown high.shown, near tables room s lower upper b low high)

pub shown_holds_light : ShownHoldsLight
unfolding next_low next_high
shown_holds_light tables room s lower upper accepted exact formed scene light lower_size upper_size lower_ends upper_ends shown =
    let b : IsLightScene tables room s = record { accepted = accepted; formed = formed; scene = scene; light = light } in
    hold tables room s lower upper b lower_size upper_size (record { row = λ i l. (shown.at i l).below }) (record { row = λ i l. (shown.at i l).above })

-- ---- where a claim isn't shown

-- n products are each rounded by less than a tick
rounding : (n : ℕ) → (whole n *ᶠ ticks 1) ≤ᶠ ticks n
unfolding whole ticks ◌*ᶠ◌
rounding n = record { cross = omega arith }

ticks_less : (a b : ℕ) → a < b → ticks a <ᶠ ticks b
unfolding ticks
ticks_less a b l = record { cross = omega arith }

-- the lower bound of row i is above what the system gives there
lower_past : (n : ℕ) (tables : List Table) (room : Room) (s : Numbers) (lower : List Tick) (i : ℕ) → IsLightScene tables room s → i < patch_count room
    → next_low s.system lower i < tick_at lower i
    → low_sum (loose_radiosity n tables room).patches lower i <ᶠ (ticks (tick_at lower i) +ᶠ ticks (patch_count room))
unfolding next_low
lower_past n tables room s lower i b inside past =
    let given : ℕ → ℕ = λ m. low_direct s.system i + total m (λ j. down_to (2 ^ 36) (low_weight s.system i j * tick_at lower j)) in
    le_lt_trans_f
    (lower_sum_near (patch_count room) (low_direct s.system i) ((loose_radiosity n tables room).patches.direct i).lo (low_weight s.system i) (tick_at lower)
    (λ j. ((loose_radiosity n tables room).patches.coefficient i j).lo) (λ j. ticks (tick_at lower j))
    ((b.scene.lights i inside).near n).lower (λ j l. (patch_weight_close n tables room s i j b.scene inside l).lower) (λ j l. le_refl_f (ticks (tick_at lower j))))
    (add_lt_f (ticks_less (given (patch_count room)) (tick_at lower i) (subst (λ (m : ℕ). given m < tick_at lower i) (rows tables room s b) past))
    (rounding (patch_count room)))

-- its upper bound is below what the system gives there
upper_past : (n : ℕ) (tables : List Table) (room : Room) (s : Numbers) (upper : List Tick) (i : ℕ) → IsLightScene tables room s → i < patch_count room
    → tick_at upper i < next_high s.system upper i
    → ticks (tick_at upper i) <ᶠ (high_sum (loose_radiosity n tables room).patches upper i +ᶠ ticks (patch_count room))
unfolding next_high
upper_past n tables room s upper i b inside past =
    let given : ℕ → ℕ = λ m. high_direct s.system i + total m (λ j. up_to (2 ^ 36) (high_weight s.system i j * tick_at upper j)) in
    lt_le_trans_f
    (ticks_less (tick_at upper i) (given (patch_count room)) (subst (λ (m : ℕ). tick_at upper i < given m) (rows tables room s b) past))
    (le_trans_f
    (upper_sum_near (patch_count room) (high_direct s.system i) ((loose_radiosity n tables room).patches.direct i).hi (high_weight s.system i) (tick_at upper)
    (λ j. ((loose_radiosity n tables room).patches.coefficient i j).hi) (λ j. ticks (tick_at upper j))
    ((b.scene.lights i inside).near n).upper (λ j l. (patch_weight_close n tables room s i j b.scene inside l).upper) (λ j l. le_refl_f (ticks (tick_at upper j))))
    (add_le_f (le_refl_f (high_sum (loose_radiosity n tables room).patches upper i)) (rounding (patch_count room))))

pub unshown_has_cause : UnshownHasCause
unshown_has_cause tables room s lower upper row accepted exact formed scene light lower_size upper_size lower_ends upper_ends first =
    let b : IsLightScene tables room s = record { accepted = accepted; formed = formed; scene = scene; light = light } in
    let inside : row < patch_count room = subst (λ (m : ℕ). row < m) (rows tables room s b) first.inside in
    record {
      in_room = inside;
      cause = λ n deep. elim (cases_lt (next_low s.system lower row) (tick_at lower row)) [
        | inl past ↦ inl (lower_past n tables room s lower row b inside past)
        | inr below ↦ elim (cases_lt (tick_at upper row) (next_high s.system upper row)) [
          | inl past ↦ inr (upper_past n tables room s upper row b inside past)
          | inr above ↦ absurd (first.not_shown (record { below = below; above = above }))
        ]
      ];
    }
