use Rattle.std.proofs.Common.{◌≡◌, false, take}
use Rattle.room_layout.specs.Positions.{place_at}
use Rattle.sight_line.specs.Sight.{is_blocked}
use Rattle.sight_line.proofs.sight.blocked_by.Given as goal

abbrev pub invariant-loop-k : goal.invariant-loop-k
invariant-loop-k l = is_blocked (take l.k l.blocks) (place_at l.from) (place_at l.to) ≡ false
