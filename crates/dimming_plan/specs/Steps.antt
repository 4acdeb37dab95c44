-- Dimming plans: a step of 0 to 10 tenths for each of six groups, the power that a plan takes, and which plan is the one of least power.
use Rattle.std.specs.Prelude.{ℕ, ◌≡◌, ◌+◌, ◌*◌, ◌^◌, ◌<◌, ◌≤◌, ◌⊎◌, ◌≤ℤ◌, pos, List, [], ◌∷◌, length, map, slice_index}
use Rattle.fx_base.specs.Units.{natural}
use Rattle.dimming_plan.specs.declared.power.Group.{Group}
use Rattle.dimming_plan.specs.declared.power.Found.{Found}

-- ---- groups

-- an average of 0 to 2^105 ticks, and the watts of at most 256 lamps
pub record IsGroup (g : Group) : Type 0 where
  pub low : pos 0 ≤ℤ g.average.lo
  pub order : g.average.lo ≤ℤ g.average.hi
  pub high : natural g.average.hi ≤ 2 ^ 105
  pub watts : g.watts ≤ 2560000

-- what each group gives in full, by the lower ends and by the upper ends
abbrev pub low_light : List Group → List ℕ
low_light groups = map (λ (g : Group). natural g.average.lo) groups

abbrev pub high_light : List Group → List ℕ
high_light groups = map (λ (g : Group). natural g.average.hi) groups

abbrev pub watts_of : List Group → List ℕ
watts_of groups = map (λ (g : Group). g.watts) groups

-- ---- plans

-- six steps of 0 to 10
pub record IsPlan (steps : List ℕ) : Type 0 where
  pub six : length steps ≡ 6
  pub each : (g : ℕ) → slice_index steps g ≤ 10

-- the sum of each step times the number of its group: tenths of what the plan gives or takes in all
unfoldable pub weighed : (steps numbers : List ℕ) → ℕ
weighed steps numbers =
    slice_index steps 0 * slice_index numbers 0 + slice_index steps 1 * slice_index numbers 1 + slice_index steps 2 * slice_index numbers 2
    + slice_index steps 3 * slice_index numbers 3 + slice_index steps 4 * slice_index numbers 4 + slice_index steps 5 * slice_index numbers 5

-- the light of the plan, a tenth of the sum in ticks, is at least so many thousandths of a lux
pub record Reaches (light : List ℕ) (least : ℕ) (steps : List ℕ) : Type 0 where
  pub enough : least * 2 ^ 36 ≤ weighed steps light * 100

-- s comes before t: at the first step in which they differ it has the lesser one
unfoldable pub Before : List ℕ → List ℕ → Type 0
Before [] t = ⊥
Before (a ∷ s) [] = ⊥
Before (a ∷ s) (b ∷ t) = (a < b) ⊎ ((a ≡ b) × Before s t)

-- ---- the plan of least power

-- it reaches the limit, takes no more than any other that does, and comes first among those that take as much
pub record IsLeastPlan (light watts : List ℕ) (least : ℕ) (found : Found) : Type 0 where
  pub is_plan : IsPlan found.steps
  pub reaches : Reaches light least found.steps
  pub power : found.tenths ≡ weighed found.steps watts
  pub least_of_all : (s : List ℕ) → IsPlan s → Reaches light least s → found.tenths ≤ weighed s watts
  pub first : (s : List ℕ) → IsPlan s → Reaches light least s → weighed s watts ≡ found.tenths → Before s found.steps → ⊥

-- no plan reaches the limit
pub record NoPlan (light : List ℕ) (least : ℕ) : Type 0 where
  pub none : (s : List ℕ) → IsPlan s → Reaches light least s → ⊥
