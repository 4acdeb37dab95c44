-- The cause of each refusal of a group.
use Rattle.std.proofs.Common.{ℕ, ◌≡◌, List}
use Rattle.radiosity_solve.specs.SolveFault as solve
use Rattle.radiosity_solve.specs.declared.fault.SolveFault.{SolveFault}
use Rattle.radiosity_solve.specs.declared.fault.SolveFault.TheVariants.{RowSum, Memory}
use Rattle.room_layout.specs.Accepted.{IsAccepted}
use Rattle.room_layout.specs.declared.room.Room.{Room}
use Rattle.photo_table.specs.Table.{Table}
use Rattle.scene_system.specs.Assembled.{Numbers, HasWeightsOf, IsWellFormed}
use Rattle.scene_system.specs.Causes.{IsCause, IsWithinLimits}
use Rattle.scene_system.specs.RowSums.{HeavyHasCause}
use Rattle.scene_system.specs.declared.fault.SceneFault.{SceneFault}
use Rattle.scene_system.specs.declared.fault.SceneFault.TheVariants as scene_fault
use Rattle.dimming_plan.specs.GroupAverages.{fault_of_scene, fault_of_rows, IsGroupCause, IsRowsCause}

-- the first heavy row of a scene is one that may be heavy
pub rows_cause : (room : Room) (s : Numbers) (fault : SolveFault) → HeavyHasCause → IsAccepted room → IsWellFormed s → HasWeightsOf room s
    → solve.IsCause s.system fault → IsRowsCause room fault
rows_cause room s (RowSum heavy) law accepted formed weights cause = law room s heavy.row heavy.upper accepted formed weights cause
rows_cause room s Memory law accepted formed weights cause = tt

pub heavy_cause : (photos : List Table) (room : Room) (fault : SolveFault) → IsWithinLimits photos room → IsRowsCause room fault
    → IsGroupCause photos room (fault_of_rows fault)
heavy_cause photos room (RowSum heavy) within cause = (within, cause)
heavy_cause photos room Memory within cause = tt

total_no_want : scene_fault.TotalIntensity ≡ scene_fault.Memory → ⊥
total_no_want e = cc

many_no_want : (count : ℕ) → scene_fault.TooManyPatches count ≡ scene_fault.Memory → ⊥
many_no_want count e = cc

point_no_want : scene_fault.NoTaskPoint ≡ scene_fault.Memory → ⊥
point_no_want e = cc

pub scene_cause : (photos : List Table) (room : Room) (fault : SceneFault) → IsCause photos room fault → IsGroupCause photos room (fault_of_scene fault)
scene_cause photos room scene_fault.TotalIntensity cause = (cause, total_no_want)
scene_cause photos room (scene_fault.TooManyPatches count) cause = (cause, many_no_want count)
scene_cause photos room scene_fault.NoTaskPoint cause = (cause, point_no_want)
scene_cause photos room scene_fault.Memory cause = tt
