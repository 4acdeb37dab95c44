-- Which power the dimming plans of a room take at least: what the two plans found say of the averages of its groups. `tables` are the exact
-- tables of the room's files.
use Rattle.std.specs.Prelude.{ℕ, ◌≡◌, ◌<◌, ◌≤◌, Bool, true, false, List, [], ◌∷◌, MatchOption}
use Rattle.std.specs.List.{list_any}
use Rattle.fx_base.specs.Fraction.{whole}
use Rattle.fx_base.specs.Interval.{InOrder, Interval, exact}
use Rattle.interval_system.specs.Radiosity.{AreRowsBelowOne, IsLightOf, Light, Radiosity, values}
use Rattle.interval_system.specs.Values.{average}
use Rattle.photo_table.specs.Table.{Table}
use Rattle.room_layout.specs.Kept.{kept_room}
use Rattle.room_layout.specs.declared.room.Room.{Room}
use Rattle.scene_system.specs.RowSums.{MayBeHeavy, in_thousandths}
use Rattle.scene_system.specs.Scene.{radiosity, loose_radiosity}
use Rattle.dimming_plan.specs.Bracket.{AreAverages, IsBracket}
use Rattle.dimming_plan.specs.Members.{group_watts, is_in, members}
use Rattle.dimming_plan.specs.Steps.{IsLeastPlan, NoPlan}
use Rattle.dimming_plan.specs.declared.entry.PlanLamp.{PlanLamp}
use Rattle.dimming_plan.specs.declared.groups.GroupFault.{GroupFault}
use Rattle.dimming_plan.specs.declared.groups.GroupFault.TheVariants.{Scene, Rows, Memory}
use Rattle.dimming_plan.specs.declared.power.PowerBracket.{PowerBracket}

-- ---- the groups of a room

-- the room with just the lamps of a group
abbrev pub group_room : Room → List PlanLamp → ℕ → Room
group_room room plan g = kept_room (members g plan) room

-- some lamp is in the group
abbrev pub has_lamp : List PlanLamp → ℕ → Bool
has_lamp plan g = list_any (is_in g) plan

-- what the lamps of each of the six groups take, in watts
abbrev pub group_powers : List PlanLamp → List ℕ
group_powers plan = group_watts 0 plan ∷ group_watts 1 plan ∷ group_watts 2 plan ∷ group_watts 3 plan ∷ group_watts 4 plan ∷ group_watts 5 plan ∷ []

-- the average of a lit room, by a light that solves its equations (there is one alone)
abbrev pub IsAverageIn : Radiosity → Interval → Type 0
IsAverageIn s i = (light : Light) × IsLightOf s.patches light × (i ≡ average (values s light))

-- the average of the room with just the lamps of a group; a group without lamps gives none
pub record IsAverageOf (lit : Room → Radiosity) (room : Room) (plan : List PlanLamp) (g : ℕ) (i : Interval) : Type 0 where
  pub some : has_lamp plan g ≡ true → IsAverageIn (lit (group_room room plan g)) i
  pub none : has_lamp plan g ≡ false → i ≡ exact (whole 0)

abbrev pub AreAveragesOf : (Room → Radiosity) → Room → List PlanLamp → (ℕ → Interval) → Type 0
AreAveragesOf lit room plan average = (g : ℕ) → g < 6 → IsAverageOf lit room plan g (average g)

-- ---- what the two plans found are to them

-- the plan of least power by the lower ends of such averages in ticks, and the one by their upper ends: six steps of 0 to 10, and their power;
-- none takes less, and none that takes as much comes before
pub record AreLeast (watts : List ℕ) (least : ℕ) (low high : List ℕ) (found : PowerBracket) : Type 0 where
  pub met : MatchOption found.met (NoPlan low least) (IsLeastPlan low watts least)
  pub possible : MatchOption found.possible (NoPlan high least) (IsLeastPlan high watts least)

pub record IsDimmed (tables : List Table) (room : Room) (plan : List PlanLamp) (least : ℕ) (found : PowerBracket) : Type 0 where
  -- the equations of each group have one solution at each depth from 2, exact and loose
  pub one_solution : (n : ℕ) → 2 ≤ n → (g : ℕ) → g < 6 → has_lamp plan g ≡ true → AreRowsBelowOne (radiosity n tables (group_room room plan g)).patches
  pub one_loose_solution : (n : ℕ) → 2 ≤ n → (g : ℕ) → g < 6 → has_lamp plan g ≡ true → AreRowsBelowOne (loose_radiosity n tables (group_room room plan g)).patches
  -- no enclosure of an average is empty
  pub in_order : (n : ℕ) → 2 ≤ n → (exact_averages loose_averages : ℕ → Interval) → AreAveragesOf (radiosity n tables) room plan exact_averages
      → AreAveragesOf (loose_radiosity n tables) room plan loose_averages → (g : ℕ) → g < 6 → InOrder (exact_averages g) × InOrder (loose_averages g)
  -- the ends of the averages of the groups in ticks, which enclose these at each depth, and by which the plans are those of least power
  pub low : List ℕ
  pub high : List ℕ
  pub averages : (n : ℕ) → 2 ≤ n → (exact_averages loose_averages : ℕ → Interval) → AreAveragesOf (radiosity n tables) room plan exact_averages
      → AreAveragesOf (loose_radiosity n tables) room plan loose_averages → AreAverages low high exact_averages loose_averages
  pub plans : AreLeast (group_powers plan) least low high found
  -- and by the averages there the plans are a bracket of the least power
  pub bracket : (n : ℕ) → 2 ≤ n → (exact_averages loose_averages : ℕ → Interval) → AreAveragesOf (radiosity n tables) room plan exact_averages
      → AreAveragesOf (loose_radiosity n tables) room plan loose_averages
      → IsBracket (group_powers plan) least found.met found.possible exact_averages loose_averages

-- ---- why none is found: a row of the room may be heavy, with each of its lamps; want of memory says nothing

abbrev pub IsHeavyCause : Room → GroupFault → Type 0
IsHeavyCause room (Scene fault) = ⊥
IsHeavyCause room (Rows heavy) = MayBeHeavy room heavy.row (in_thousandths heavy.upper)
IsHeavyCause room Memory = Unit {0}
