-- The pieces of a text, one more at a time.
use Rattle.std.proofs.Common.{ℕ, ◌+◌, ◌≡◌, List, ◌++◌, add-one, append-nil, append_assoc, sym}
use Rattle.room_make.specs.Room.{pieces}

pub no_pieces : (text : List ℕ) (piece : ℕ → List ℕ) → text ≡ text ++ pieces piece 0
unfolding pieces
no_pieces text piece = sym (append-nil text)

pub one_piece_more : (text : List ℕ) (piece : ℕ → List ℕ) (k : ℕ) → (text ++ pieces piece k) ++ piece k ≡ text ++ pieces piece (k + 1)
unfolding pieces
one_piece_more text piece k = rw add-one (append_assoc text (pieces piece k) (piece k))
