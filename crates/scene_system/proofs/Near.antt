-- The sums of the program at a point against the value there, for every light that solves the equations of the patches: they meet it
-- where the ticks meet the enclosures, and are near it where the ticks lie within them.
use Rattle.std.proofs.Common.{ℕ, ◌+◌, ◌*◌, ◌^◌, ◌<◌, ◌≤◌}
use Rattle.fx_base.specs.Fraction.{Fraction, ◌≤ᶠ◌, ◌+ᶠ◌, ◌-ᶠ◌}
use Rattle.fx_base.specs.Units.{ticks}
use Rattle.fx_base.proofs.Order.{le_refl_f, le_trans_f, le_of_eq_f, ge_of_eq_f, add_le_f, le_add_f, sub_le_f, sub_le_self_f}
use Rattle.interval_system.specs.Equations.{RowsBelowOne, value_by, solution}
use Rattle.interval_system.specs.Radiosity.{Radiosity, Light, IsLightOf, AreRowsBelowOne, value}
use Rattle.interval_system.specs.Whole.{total}
use Rattle.radiosity_solve.specs.Bounds.{ticks_solution}
use Rattle.radiosity_solve.specs.Shown.{IsShownLower, IsShownUpper}
use Rattle.fx_base.specs.Rounded.{down_to, up_to}
use Rattle.radiosity_solve.proofs.Compose.{lower_below, upper_above, lower_within, upper_within}
use Rattle.radiosity_solve.proofs.Fractions.{has_one_fraction_solution}
use Rattle.scene_system.proofs.PointSums.{lower_sum_below, lower_sum_near, upper_sum_above, upper_sum_near, rounding_most}

-- ---- the light is the solution of the elimination

pub lower_is : (s : Radiosity) (light : Light) → IsLightOf s.patches light → AreRowsBelowOne s.patches → (j : ℕ) → j < s.patches.size
    → light.lower j ≤ᶠ solution s.patches.size (λ i j. (s.patches.coefficient i j).lo) (λ i. (s.patches.direct i).lo) j
lower_is s light is rows j l =
    le_of_eq_f ((has_one_fraction_solution s.patches.size (λ i j. (s.patches.coefficient i j).lo) (λ i. (s.patches.direct i).lo) rows.lower).alone light.lower is.lower j l)

pub upper_is : (s : Radiosity) (light : Light) → IsLightOf s.patches light → AreRowsBelowOne s.patches → (j : ℕ) → j < s.patches.size
    → solution s.patches.size (λ i j. (s.patches.coefficient i j).hi) (λ i. (s.patches.direct i).hi) j ≤ᶠ light.upper j
upper_is s light is rows j l =
    ge_of_eq_f ((has_one_fraction_solution s.patches.size (λ i j. (s.patches.coefficient i j).hi) (λ i. (s.patches.direct i).hi) rows.upper).alone light.upper is.upper j l)

-- ---- they meet

-- the lower ends lo, dlo of the patches and w, e of the point are at most the scene's upper ends
pub meets_above : (s : Radiosity) (light : Light) (g : ℕ) (lo : ℕ → ℕ → ℕ) (dlo x w : ℕ → ℕ) (e : ℕ)
    → IsLightOf s.patches light → AreRowsBelowOne s.patches
    → ((i j : ℕ) → i < s.patches.size → j < s.patches.size → ticks (lo i j) ≤ᶠ (s.patches.coefficient i j).hi)
    → ((i : ℕ) → i < s.patches.size → ticks (dlo i) ≤ᶠ (s.patches.direct i).hi)
    → IsShownLower s.patches.size (2 ^ 36) lo dlo x
    → ((j : ℕ) → j < s.patches.size → ticks (w j) ≤ᶠ (s.coefficient g j).hi) → ticks e ≤ᶠ (s.direct g).hi
    → ticks (e + total s.patches.size (λ j. down_to (2 ^ 36) (w j * x j))) ≤ᶠ (value s light g).hi
unfolding value
meets_above s light g lo dlo x w e is rows weights lights shown sent own =
    lower_sum_below s.patches.size e (s.direct g).hi w x (λ j. (s.coefficient g j).hi) (λ j. light.upper j +ᶠ s.move) own sent
    (λ j l. le_trans_f
    (lower_below s.patches.size (λ i j. (s.patches.coefficient i j).hi) (λ i. (s.patches.direct i).hi) lo dlo x rows.upper weights lights shown j l)
    (le_trans_f (upper_is s light is rows j l) (le_add_f (light.upper j) s.move)))

-- the upper ends are at least the scene's lower ends
pub meets_below : (s : Radiosity) (light : Light) (g : ℕ) (hi : ℕ → ℕ → ℕ) (dhi x w : ℕ → ℕ) (e : ℕ)
    → IsLightOf s.patches light → AreRowsBelowOne s.patches
    → ((i j : ℕ) → i < s.patches.size → j < s.patches.size → (s.patches.coefficient i j).lo ≤ᶠ ticks (hi i j))
    → ((i : ℕ) → i < s.patches.size → (s.patches.direct i).lo ≤ᶠ ticks (dhi i))
    → IsShownUpper s.patches.size (2 ^ 36) hi dhi x
    → ((j : ℕ) → j < s.patches.size → (s.coefficient g j).lo ≤ᶠ ticks (w j)) → (s.direct g).lo ≤ᶠ ticks e
    → (value s light g).lo ≤ᶠ ticks (e + total s.patches.size (λ j. up_to (2 ^ 36) (w j * x j)))
unfolding value
meets_below s light g hi dhi x w e is rows weights lights shown sent own =
    upper_sum_above s.patches.size e (s.direct g).lo w x (λ j. (s.coefficient g j).lo) (λ j. light.lower j -ᶠ s.move) own sent
    (λ j l. le_trans_f (sub_le_self_f (light.lower j) s.move)
    (le_trans_f (lower_is s light is rows j l)
    (upper_above s.patches.size (λ i j. (s.patches.coefficient i j).lo) (λ i. (s.patches.direct i).lo) hi dhi x rows.lower weights lights shown j l)))

-- ---- they are near

-- the lower ends are at least the scene's, and the bounds x within its `move` of the solution of these ends
pub near_below : (s : Radiosity) (light : Light) (g : ℕ) (lo : ℕ → ℕ → ℕ) (dlo x w : ℕ → ℕ) (e : ℕ) → s.patches.size ≤ 2048
    → IsLightOf s.patches light → AreRowsBelowOne s.patches → RowsBelowOne s.patches.size (λ i j. ticks (lo i j))
    → ((i j : ℕ) → i < s.patches.size → j < s.patches.size → (s.patches.coefficient i j).lo ≤ᶠ ticks (lo i j))
    → ((i : ℕ) → i < s.patches.size → (s.patches.direct i).lo ≤ᶠ ticks (dlo i))
    → ((i : ℕ) → i < s.patches.size → ticks_solution s.patches.size lo dlo i ≤ᶠ (ticks (x i) +ᶠ s.move))
    → ((j : ℕ) → j < s.patches.size → (s.coefficient g j).lo ≤ᶠ ticks (w j)) → (s.direct g).lo ≤ᶠ ticks e
    → ((value s light g).lo -ᶠ ticks 2048) ≤ᶠ ticks (e + total s.patches.size (λ j. down_to (2 ^ 36) (w j * x j)))
unfolding value
near_below s light g lo dlo x w e few is rows low weights lights near sent own =
    let total_is : ℕ = e + total s.patches.size (λ j. down_to (2 ^ 36) (w j * x j)) in
    let h : ℕ → Fraction = λ j. light.lower j -ᶠ s.move in
    let patches : (j : ℕ) → j < s.patches.size → h j ≤ᶠ ticks (x j) = λ j l.
    sub_le_f (light.lower j) s.move
    (le_trans_f (lower_is s light is rows j l)
    (lower_within s.patches.size (λ i j. (s.patches.coefficient i j).lo) (λ i. (s.patches.direct i).lo) lo dlo x s.move low weights lights near j l)) in
    sub_le_f (value_by s.patches.size (s.direct g).lo (λ j. (s.coefficient g j).lo) h) (ticks 2048)
    (le_trans_f (lower_sum_near s.patches.size e (s.direct g).lo w x (λ j. (s.coefficient g j).lo) h own sent patches)
    (add_le_f (le_refl_f (ticks total_is)) (rounding_most s.patches.size few)))

pub near_above : (s : Radiosity) (light : Light) (g : ℕ) (hi : ℕ → ℕ → ℕ) (dhi x w : ℕ → ℕ) (e : ℕ) → s.patches.size ≤ 2048
    → IsLightOf s.patches light → AreRowsBelowOne s.patches
    → ((i j : ℕ) → i < s.patches.size → j < s.patches.size → ticks (hi i j) ≤ᶠ (s.patches.coefficient i j).hi)
    → ((i : ℕ) → i < s.patches.size → ticks (dhi i) ≤ᶠ (s.patches.direct i).hi)
    → ((i : ℕ) → i < s.patches.size → ticks (x i) ≤ᶠ (ticks_solution s.patches.size hi dhi i +ᶠ s.move))
    → ((j : ℕ) → j < s.patches.size → ticks (w j) ≤ᶠ (s.coefficient g j).hi) → ticks e ≤ᶠ (s.direct g).hi
    → ticks (e + total s.patches.size (λ j. up_to (2 ^ 36) (w j * x j))) ≤ᶠ ((value s light g).hi +ᶠ ticks 2048)
unfolding value
near_above s light g hi dhi x w e few is rows weights lights near sent own =
    let h : ℕ → Fraction = λ j. light.upper j +ᶠ s.move in
    le_trans_f
    (upper_sum_near s.patches.size e (s.direct g).hi w x (λ j. (s.coefficient g j).hi) h own sent
    (λ j l. le_trans_f (upper_within s.patches.size (λ i j. (s.patches.coefficient i j).hi) (λ i. (s.patches.direct i).hi) hi dhi x s.move rows.upper weights lights near j l)
    (add_le_f (upper_is s light is rows j l) (le_refl_f s.move))))
    (add_le_f (le_refl_f (value_by s.patches.size (s.direct g).hi (λ j. (s.coefficient g j).hi) h)) (rounding_most s.patches.size few))
