-- The values of a room, as those of a grid.
use Rattle.std.proofs.Common.{ℕ, ◌<◌, ◌≤◌, List, length, arith, sym, ◌∙◌}
use Rattle.std.specs.Prelude.{slice_index_or}
use Rattle.interval_system.specs.Radiosity.{Light, IsLightOf, values}
use Rattle.room_layout.specs.declared.room.Room.{Room}
use Rattle.photo_table.specs.Table.{Table}
use Rattle.scene_system.specs.Scene.{task_point_of, radiosity, loose_radiosity}
use Rattle.scene_system.specs.PointValues.{ArePoints}
use Rattle.scene_system.specs.Sums.{IsValue}
use Rattle.scene_system.specs.declared.value.PointValue.{PointValue}
use Rattle.scene_system.proofs.Means.{AreCoveredBy}
use Rattle.scene_system.proofs.Averages.{AreMeeting, AreNear}

pub covered_points : (tables : List Table) (room : Room) (vs : List PointValue) → ArePoints tables room vs → AreCoveredBy vs (λ g. (task_point_of room g).covered)
covered_points tables room vs are = λ g d l. (are.each g d l).covered_is

pub each_value : (tables : List Table) (room : Room) (vs : List PointValue) → ArePoints tables room vs → (g : ℕ) (d : PointValue) → g < length vs → IsValue (slice_index_or vs g d)
each_value tables room vs are g d l = let v = are.each g d l in record { low = v.low; order = v.order; high = v.high }

pub meeting : (tables : List Table) (room : Room) (vs : List PointValue) (n : ℕ) (light : Light) → 2 ≤ n → IsLightOf (radiosity n tables room).patches light → ArePoints tables room vs
    → AreMeeting (values (radiosity n tables room) light) vs
unfolding values
meeting tables room vs n light deep solves are = record {
  count = sym are.count;
  covered = covered_points tables room vs are;
  meets = λ g d l o. (are.each g d l).meets ((are.each g d l).covered_is ∙ o) n deep light solves;
  order = λ g l. are.order g l n deep light solves;
}

pub near : (tables : List Table) (room : Room) (vs : List PointValue) (n : ℕ) (light : Light) → 2 ≤ n → IsLightOf (loose_radiosity n tables room).patches light → ArePoints tables room vs
    → AreNear 2048 (values (loose_radiosity n tables room) light) vs
unfolding values
near tables room vs n light deep solves are = record {
  few = omega arith;
  count = sym are.count;
  covered = covered_points tables room vs are;
  near = λ g d l o. (are.each g d l).near ((are.each g d l).covered_is ∙ o) n deep light solves;
  order = λ g l. are.loose_order g l n deep light solves;
}
