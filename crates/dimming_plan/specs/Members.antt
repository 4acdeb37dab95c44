-- The lamps of the six groups.
use Rattle.std.specs.Prelude.{ℕ, ◌==◌, Bool, if◌then◌else◌, List, map, sum_by}
use Rattle.dimming_plan.specs.declared.entry.PlanLamp.{PlanLamp}

abbrev pub is_in : ℕ → PlanLamp → Bool
is_in group lamp = lamp.group == group

-- which lamps are in a group, in the order of the plan
abbrev pub members : ℕ → List PlanLamp → List Bool
members group plan = map (is_in group) plan

-- what the lamps of a group take in full
abbrev pub group_watts : ℕ → List PlanLamp → ℕ
group_watts group plan = sum_by (λ (lamp : PlanLamp). if is_in group lamp then lamp.watts else 0) plan
