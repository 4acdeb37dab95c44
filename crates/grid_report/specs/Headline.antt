-- What a printed report promises of the room, with the exact tables of its files in their order.
use Rattle.std.specs.Prelude.{ℕ, ◌≡◌, ◌*◌, ◌≤◌, ◌<◌, ◌↔◌, true, List, [], ◌∷◌, length, min, slice_index_or, Option, Some, None, IfSome, IfNone, IsNone}
use Rattle.fx_base.specs.Fraction.{◌≤ᶠ◌, ◌<ᶠ◌, ◌+ᶠ◌, ratio, whole, half_power}
use Rattle.fx_base.specs.Interval.{Meets, LiesIn, InOrder, outward}
use Rattle.interval_system.specs.Radiosity.{AreRowsBelowOne}
use Rattle.interval_system.specs.Values.{Grid, open_count, average, uniformity}
use Rattle.room_layout.specs.declared.room.Room.{Room}
use Rattle.photo_table.specs.Table.{Table}
use Rattle.scene_system.specs.Scene.{task_point_of, radiosity, loose_radiosity}
use Rattle.report_form.specs.Spelled.{said}
use Rattle.report_form.specs.declared.report.Printed.{Printed}
use Rattle.report_form.specs.declared.report.Report.{Report}
use Rattle.scene_system.specs.RoomValues.{ForExactValues, ForLooseValues}

abbrev pub ends_at : Report → ℕ → Option Printed
ends_at r g = slice_index_or r.points g None

-- ---- the lines are those of the room, and what they say is in order

abbrev pub IsInOrder : Printed → Type 0
IsInOrder e = e.lo ≤ e.hi

pub record Fits (room : Room) (r : Report) : Type 0 where
  pub columns : r.columns ≡ room.task.nx
  pub points : length r.points ≡ room.task.nx * room.task.ny
  pub covered : (g : ℕ) → g < length r.points → IsNone (ends_at r g) ↔ ((task_point_of room g).covered ≡ true)
  pub points_in_order : (g : ℕ) → IfSome (ends_at r g) IsInOrder
  pub average_in_order : IsInOrder r.average
  pub uniformity_in_order : IfSome r.uniformity IsInOrder

-- ---- the radiosity equations have one solution at each depth, exact and loose, by their lower and by their upper ends

pub record HaveOneSolution (tables : List Table) (room : Room) : Type 0 where
  pub exact : (n : ℕ) → 2 ≤ n → AreRowsBelowOne (radiosity n tables room).patches
  pub loose : (n : ℕ) → 2 ≤ n → AreRowsBelowOne (loose_radiosity n tables room).patches

-- ---- the values are intervals: no enclosure is empty, and some point counts

pub record AreInOrder (x : Grid) : Type 0 where
  pub some_open : 0 < open_count x.covered x.points
  pub each_point : (g : ℕ) → g < x.points → InOrder (x.value g)
  pub the_average : InOrder (average x)
  pub the_uniformity : InOrder (uniformity x)

-- the exact ones and the loose ones
pub record HaveValuesInOrder (tables : List Table) (room : Room) : Type 0 where
  pub exact : ForExactValues tables room AreInOrder
  pub loose : ForLooseValues tables room AreInOrder

-- ---- the printed intervals meet the exact values

pub record MeetsValues (tables : List Table) (room : Room) (r : Report) : Type 0 where
  pub each_point : (g : ℕ) → IfSome (ends_at r g) (λ e. ForExactValues tables room (λ x. Meets (said 100 e) (x.value g)))
  pub the_average : ForExactValues tables room (λ x. Meets (said 100 r.average) (average x))
  pub the_uniformity : IfSome r.uniformity (λ e. ForExactValues tables room (λ x. Meets (said 1000 e) (uniformity x)))
  -- a uniformity is printed only where the average is positive, exactly and as printed; none only where its printed lower end is 0
  pub positive : IfSome r.uniformity (λ e. ForExactValues tables room (λ x. whole 0 <ᶠ (average x).hi))
  pub printed_positive : IfSome r.uniformity (λ e. 0 < r.average.hi)
  pub none : IfNone r.uniformity (r.average.lo ≡ 0)

-- ---- and are no wider than the loose values allow

-- the least printed end on one side over the points that aren't covered
abbrev pub least_end : (Printed → ℕ) → List (Option Printed) → Option ℕ
least_end side [] = None
least_end side (None ∷ more) = least_end side more
least_end side (Some e ∷ more) = elim (least_end side more) [ None ↦ Some (side e) | Some m ↦ Some (min (side e) m) ]

pub record IsNarrow (tables : List Table) (room : Room) (r : Report) : Type 0 where
  pub each_point : (g : ℕ) → IfSome (ends_at r g) (λ e. ForLooseValues tables room (λ x. LiesIn (said 100 e) (outward (ratio 12 1000) (x.value g))))
  pub the_average : ForLooseValues tables room (λ x. LiesIn (said 100 r.average) (outward (ratio 12 1000) (average x)))
  pub none : IfNone r.uniformity (ForLooseValues tables room (λ x. (average x).lo <ᶠ half_power 20))
  pub the_uniformity : IfSome r.uniformity (λ e. ForLooseValues tables room (λ x.
      whole 1 ≤ᶠ (average x).lo → LiesIn (said 1000 e) (outward (ratio 2 1000) (uniformity x))))
  pub at_most_one : IfSome r.uniformity (λ e. e.hi ≤ 1000)
  -- and never further out than the quotients of the printed ends by a thousandth
  pub lower_by_ends : IfSome r.uniformity (λ e. IfSome (least_end (λ (d : Printed). d.lo) r.points) (λ low.
      ratio low r.average.hi ≤ᶠ (ratio e.lo 1000 +ᶠ ratio 1 1000)))
  pub upper_by_ends : IfSome r.uniformity (λ e. IfSome (least_end (λ (d : Printed). d.hi) r.points) (λ high.
      0 < r.average.lo → ratio e.hi 1000 ≤ᶠ (ratio high r.average.lo +ᶠ ratio 1 1000)))

pub record IsRight (tables : List Table) (room : Room) (r : Report) : Type 0 where
  pub fits : Fits room r
  pub one_solution : HaveOneSolution tables room
  pub in_order : HaveValuesInOrder tables room
  pub meets : MeetsValues tables room r
  pub narrow : IsNarrow tables room r
