-- The rows so far are the lists taken so far, and there is room for the rest.
use Rattle.std.proofs.Common.{◌≡◌, map, vec_capacity, vec_items}
use Rattle.scene_system.proofs.lists.rows_of.Given as goal

abbrev pub invariant-loop-list : goal.invariant-loop-list
invariant-loop-list l =
    (goal.iterator-loop-list).can_next l.list-iterator
    × (goal.iterator-loop-list).is_finite l.list-iterator
    × (l.rows.items ≡ map vec_items l.yielded)
    × (vec_capacity l.rows ≡ vec_capacity l.fn.room)
