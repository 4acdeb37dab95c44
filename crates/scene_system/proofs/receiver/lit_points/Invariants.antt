-- The receivers so far are the first task points.
use Rattle.room_layout.specs.declared.geometry.Face.TheVariants.{Up}
use Rattle.scene_system.specs.Receivers.{task_places, AreReceiversAt}
use Rattle.scene_system.proofs.receiver.lit_points.Given as goal

abbrev pub invariant-loop-g : goal.invariant-loop-g
invariant-loop-g l = AreReceiversAt l.index (task_places l.points) (λ _. Up) l.g l.all.items
