-- What holds before each turn of the loops of `with_lamp_row`.
use Rattle.std.proofs.Common.{◌≡◌, ◌++◌, string_bytes}
use Rattle.room_make.specs.Room.{pieces, lamp_text}
use Rattle.room_make.proofs.make.with_lamp_row.Given as goal

-- the text has the pieces with the numbers so far
abbrev pub invariant-loop-column : goal.invariant-loop-column
invariant-loop-column l = string_bytes l.text ≡ string_bytes l.fn.text ++ pieces (lamp_text l.n l.row) l.column
