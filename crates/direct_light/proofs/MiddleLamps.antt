-- A lamp of up to 600 by 600 mm in the middle of a room of 6 m is within reach, whatever its aim: the tests have such lamps.
use Rattle.std.proofs.Common.{ℕ, ◌≤◌, arith}
use Rattle.room_layout.specs.Across.{across}
use Rattle.room_layout.specs.declared.geometry.Face.{Face}
use Rattle.direct_light.specs.Lamps.{IsEdgeInReach}
use Rattle.direct_light.proofs.PointLists.{each_axis}

edge_in_reach : (size : ℕ) → size ≤ 600 → IsEdgeInReach 3000 size
edge_in_reach size h = (omega (arith, h), omega (arith, h))

pub middle_in_reach : (aim : Face) (a b : ℕ) → a ≤ 600 → b ≤ 600
    → IsEdgeInReach 3000 (across aim a b 0).x × IsEdgeInReach 3000 (across aim a b 0).y × IsEdgeInReach 3000 (across aim a b 0).z
middle_in_reach aim a b g h = each_axis (λ size parts i. IsEdgeInReach 3000 size) aim a b 0 0 0 0 0 0 0 (edge_in_reach a g) (edge_in_reach b h) (edge_in_reach 0 (omega arith))
