use Rattle.std.proofs.Common.{◌≡◌, ◌++◌, drop}
use Rattle.room_layout.specs.Kept.{kept}
use Rattle.room_layout.proofs.selection.kept_lamps.Given as goal

abbrev pub invariant-loop-k : goal.invariant-loop-k
invariant-loop-k l = l.some.items ++ kept (drop l.k l.keep) (drop l.k l.lamps) ≡ kept l.keep l.lamps
