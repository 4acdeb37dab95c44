-- What holds before each turn of the loops of `with_boxes`.
use Rattle.std.proofs.Common.{◌≡◌, ◌++◌, string_bytes}
use Rattle.room_make.specs.Room.{pieces, box_text}
use Rattle.room_make.proofs.make.with_boxes.Given as goal

-- the text has the pieces with the numbers so far
abbrev pub invariant-loop-number : goal.invariant-loop-number
invariant-loop-number l = string_bytes l.text ≡ string_bytes l.fn.text ++ pieces box_text l.number
