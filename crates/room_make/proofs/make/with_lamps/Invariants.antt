-- What holds before each turn of the loops of `with_lamps`.
use Rattle.std.proofs.Common.{◌≡◌, ◌++◌, string_bytes}
use Rattle.room_make.specs.Room.{pieces, lamp_row_text}
use Rattle.room_make.proofs.make.with_lamps.Given as goal

-- the text has the pieces with the numbers so far
abbrev pub invariant-loop-row : goal.invariant-loop-row
invariant-loop-row l = string_bytes l.text ≡ string_bytes l.fn.text ++ pieces (lamp_row_text l.n) l.row
