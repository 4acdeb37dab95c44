-- Row sums of a room's coefficients: when a room may be refused for them, when it must be, and when it can't be.
use Rattle.std.specs.Prelude.{ℕ, ◌*◌, ◌<◌, ◌≤◌, ◌^◌, List}
use Rattle.std.specs.Int.{div_ceil}
use Rattle.fx_base.specs.Fraction.{Fraction, ◌≤ᶠ◌, ◌<ᶠ◌, ◌+ᶠ◌, ◌*ᶠ◌, ratio, whole, half_power}
use Rattle.fx_base.specs.Interval.{Interval, sum_of}
use Rattle.interval_system.specs.Radiosity.{AreRowsBelowOne}
use Rattle.interval_system.specs.System.{NoneHeavy, IsFirstHeavy}
use Rattle.room_layout.specs.Accepted.{IsAccepted}
use Rattle.room_layout.specs.declared.room.Room.{Room}
use Rattle.photo_table.specs.Table.{Table}
use Rattle.scene_system.specs.Assembled.{Numbers, HasWeightsOf, IsWellFormed}
use Rattle.scene_system.specs.Scene.{coefficient_at, patch_count, patch_face, patch_place, radiosity, loose_radiosity}

-- the sum of the coefficients of patch i at depth n
abbrev pub row_sum : ℕ → Room → ℕ → Interval
row_sum n room i = sum_of (patch_count room) (λ j. coefficient_at n room (patch_place room i) (patch_face room i) j)

-- the greatest sum of a row with which the equations are solved
abbrev pub greatest_row_sum : Fraction
greatest_row_sum = ratio 255 256

-- by how much a row sum in ticks may be above that of the coefficients: 2^-32 for each patch
abbrev pub slack : Room → Fraction
slack room = whole (patch_count room) *ᶠ half_power 32

-- a sum of ticks in thousandths, rounded up
abbrev pub in_thousandths : ℕ → ℕ
in_thousandths sum = div_ceil (sum * 1000) (2 ^ 36)

-- ---- the rules

-- a room may be refused for this row, with this sum in thousandths
pub record MayBeHeavy (room : Room) (row thousandths : ℕ) : Type 0 where
  pub in_room : row < patch_count room
  -- at every depth from 2 the row is heavy, give or take the slack
  pub heavy : (n : ℕ) → 2 ≤ n → greatest_row_sum <ᶠ ((row_sum n room row).hi +ᶠ slack room)
  -- no earlier row is shown to be heavy at any depth
  pub none_before : (i n : ℕ) → i < row → (row_sum n room i).lo ≤ᶠ greatest_row_sum
  pub sum_above : (n : ℕ) → 2 ≤ n → (row_sum n room row).lo ≤ᶠ ratio thousandths 1000
  pub sum_below : (n : ℕ) → 2 ≤ n → ratio thousandths 1000 ≤ᶠ ((row_sum n room row).hi +ᶠ slack room +ᶠ ratio 1 1000)

-- no row is shown to be heavy at any depth: a room that has such a row is refused
abbrev pub NoneIsHeavy : Room → Type 0
NoneIsHeavy room = (i n : ℕ) → i < patch_count room → (row_sum n room i).lo ≤ᶠ greatest_row_sum

-- at some depth from 2 every row is shown not to be heavy, with the slack: then the room is not refused
pub record IsMild (room : Room) : Type 0 where
  pub depth : ℕ
  pub deep : 2 ≤ depth
  pub row : (i : ℕ) → i < patch_count room → ((row_sum depth room i).hi +ᶠ slack room) ≤ᶠ greatest_row_sum

-- ---- what they are to a scene of the room

abbrev pub HeavyHasCause : Type 0
HeavyHasCause = (room : Room) (s : Numbers) (row sum : ℕ) → IsAccepted room → IsWellFormed s → HasWeightsOf room s → IsFirstHeavy s.system.rows row sum → MayBeHeavy room row (in_thousandths sum)

abbrev pub NoneIsShownHeavy : Type 0
NoneIsShownHeavy = (room : Room) (s : Numbers) → IsAccepted room → IsWellFormed s → HasWeightsOf room s → NoneHeavy s.system.rows → NoneIsHeavy room

abbrev pub MildIsServed : Type 0
MildIsServed = (room : Room) (s : Numbers) → IsAccepted room → IsWellFormed s → HasWeightsOf room s → IsMild room → NoneHeavy s.system.rows

-- where no row of the scene is heavy, the row sums of all lower and of all upper ends are below one from depth 2 on, also in the loose form
abbrev pub RowsStayBelowOne : Type 0
RowsStayBelowOne = (tables : List Table) (room : Room) (s : Numbers) (n : ℕ) → IsAccepted room → IsWellFormed s → HasWeightsOf room s → NoneHeavy s.system.rows → 2 ≤ n
    → AreRowsBelowOne (radiosity n tables room).patches × AreRowsBelowOne (loose_radiosity n tables room).patches
