-- The value at a point is in order where the enclosures are, for every light that solves the equations of the patches.
use Rattle.std.proofs.Common.{ℕ, ◌<◌}
use Rattle.fx_base.specs.Fraction.{◌≤ᶠ◌, ◌+ᶠ◌, ◌-ᶠ◌}
use Rattle.fx_base.specs.Interval.{InOrder}
use Rattle.fx_base.proofs.Order.{le_trans_f, le_add_f, sub_le_self_f}
use Rattle.interval_system.specs.Radiosity.{Radiosity, Light, IsLightOf, AreRowsBelowOne, value}
use Rattle.radiosity_solve.proofs.Fractions.{solutions_ordered}
use Rattle.scene_system.specs.Laws.{HasEndsInOrder}
use Rattle.scene_system.proofs.Near.{lower_is, upper_is}
use Rattle.scene_system.proofs.PointSums.{value_rises}

light_order : (s : Radiosity) (light : Light) → IsLightOf s.patches light → AreRowsBelowOne s.patches → HasEndsInOrder s
    → (j : ℕ) → j < s.patches.size → light.lower j ≤ᶠ light.upper j
light_order s light is rows order j l =
    le_trans_f (lower_is s light is rows j l)
    (le_trans_f
    (solutions_ordered s.patches.size (λ i j. (s.patches.coefficient i j).lo) (λ i j. (s.patches.coefficient i j).hi)
    (λ i. (s.patches.direct i).lo) (λ i. (s.patches.direct i).hi) rows.upper order.coefficient order.direct j l)
    (upper_is s light is rows j l))

pub value_order : (s : Radiosity) (light : Light) (g : ℕ) → IsLightOf s.patches light → AreRowsBelowOne s.patches → HasEndsInOrder s
    → g < s.points → InOrder (value s light g)
unfolding value
value_order s light g is rows order inside =
    value_rises s.patches.size (s.direct g).lo (s.direct g).hi (λ j. (s.coefficient g j).lo) (λ j. (s.coefficient g j).hi)
    (λ j. light.lower j -ᶠ s.move) (λ j. light.upper j +ᶠ s.move)
    (order.point_direct g inside) (λ j l. order.point_coefficient g j inside l)
    (λ j l. le_trans_f (sub_le_self_f (light.lower j) s.move)
    (le_trans_f (light_order s light is rows order j l) (le_add_f (light.upper j) s.move)))
