-- Lamps don't change a room's patches, points and coefficients, and some of its lamps are no brighter than all.
use Rattle.std.proofs.Common.{ℕ, ◌+◌, ◌≤◌, ◌≡◌, Bool, true, false, if◌then◌else◌, List, [], ◌∷◌, arith, refl}
use Rattle.std.specs.Prelude.{sum_by}
use Rattle.std.proofs.lemmas.List.Sums.{sum_by-cons}
use Rattle.patch_mesh.specs.Patches.{patches, tilings}
use Rattle.patch_mesh.specs.Surfaces.{surfaces}
use Rattle.patch_mesh.specs.TaskPoints.{task_points, task_point}
use Rattle.room_layout.specs.Kept.{kept, kept_room}
use Rattle.room_layout.specs.declared.room.Lamp.{Lamp}
use Rattle.room_layout.specs.declared.room.Room.{Room}
use Rattle.photo_table.specs.Table.{Table}
use Rattle.scene_system.specs.Assembled.{open_points}
use Rattle.scene_system.specs.Causes.{ticks_of, IsWithinLimits}
use Rattle.scene_system.specs.RowSums.{row_sum}
use Rattle.scene_system.specs.Scene.{radiosity, loose_radiosity}
use Rattle.sight_line.specs.Sight.{is_clear}
use Rattle.dimming_plan.specs.Dimmed.{lit_by}
use Rattle.dimming_plan.specs.SameGeometry.{with_lamps, light_of_lamps, loose_light_of_lamps, LampsKeepGeometry, GeometryIsKept, LimitsAreKept}

same_exact : (n : ℕ) (tables : List Table) (room : Room) (lamps : List Lamp)
    → radiosity n tables (with_lamps room lamps) ≡ lit_by (radiosity n tables room) (light_of_lamps n tables room lamps)
unfolding patches tilings surfaces task_points task_point is_clear
same_exact n tables room lamps = refl

same_loose : (n : ℕ) (tables : List Table) (room : Room) (lamps : List Lamp)
    → loose_radiosity n tables (with_lamps room lamps) ≡ lit_by (loose_radiosity n tables room) (loose_light_of_lamps n tables room lamps)
unfolding patches tilings surfaces task_points task_point is_clear
same_loose n tables room lamps = refl

same_sums : (n : ℕ) (room : Room) (lamps : List Lamp) (i : ℕ) → row_sum n (with_lamps room lamps) i ≡ row_sum n room i
unfolding patches tilings surfaces is_clear
same_sums n room lamps i = refl

pub geometry_is_kept : GeometryIsKept
geometry_is_kept n tables room lamps = record { exact = same_exact n tables room lamps; loose = same_loose n tables room lamps; row_sums = same_sums n room lamps }

-- ---- limits

less_of_kept : (f : Lamp → ℕ) (keep : List Bool) (lamps : List Lamp) → sum_by f (kept keep lamps) ≤ sum_by f lamps
unfolding kept
less_of_kept f [] lamps = omega arith
less_of_kept f (k ∷ keep) [] = omega arith
less_of_kept f (true ∷ keep) (l ∷ lamps) = rw (sum_by-cons f l (kept keep lamps), sum_by-cons f l lamps) (omega (arith, less_of_kept f keep lamps))
less_of_kept f (false ∷ keep) (l ∷ lamps) = rw (sum_by-cons f l lamps) (omega (arith, less_of_kept f keep lamps))

pub limits_are_kept : LimitsAreKept
unfolding patches tilings surfaces task_points task_point
limits_are_kept tables room keep is = record {
  dim = omega (arith, less_of_kept (ticks_of tables) keep room.lamps, is.dim);
  few = is.few;
  some_open = is.some_open;
}
