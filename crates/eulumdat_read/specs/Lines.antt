-- The lines of a file. A CR before an LF, or at the end of the bytes, belongs to no line; a last line without LF counts where it
-- isn't empty.
use Rattle.std.specs.Prelude.{ℕ, ◌-◌, ◌==◌, ◌||◌, Bool, if◌then◌else◌, List, [], ◌∷◌, length, map, take, drop, reverse, slice_index}
use Rattle.std.specs.List.{prefix_len}

abbrev pub onto_first : ℕ → List (List ℕ) → List (List ℕ)
onto_first b [] = (b ∷ []) ∷ []
onto_first b (line ∷ lines) = (b ∷ line) ∷ lines

-- cut at each LF; what stands after the last one is a piece too
unfoldable pub pieces : List ℕ → List (List ℕ)
pieces [] = [] ∷ []
pieces (b ∷ bytes) = if b == 10 then [] ∷ pieces bytes else onto_first b (pieces bytes)

abbrev pub without_cr : List ℕ → List ℕ
without_cr line = if slice_index line (length line - 1) == 13 then take (length line - 1) line else line

-- a last one that is empty left out
unfoldable pub but_empty_last : List (List ℕ) → List (List ℕ)
but_empty_last [] = []
but_empty_last (line ∷ []) = if length line == 0 then [] else line ∷ []
but_empty_last (line ∷ next ∷ lines) = line ∷ but_empty_last (next ∷ lines)

unfoldable pub lines_of : List ℕ → List (List ℕ)
lines_of bytes = but_empty_last (map without_cr (pieces bytes))

-- ---- within a line

-- a space or a tab
abbrev pub is_space : ℕ → Bool
is_space b = b == 32 || b == 9

-- spaces at both ends left out
abbrev pub trimmed : List ℕ → List ℕ
trimmed line =
    let rest = drop (prefix_len is_space line) line in
    take (length rest - prefix_len is_space (reverse rest)) rest

-- a space, a tab, a CR or a byte 0x1A, which some programs write at the end of a file
abbrev pub is_blank_byte : ℕ → Bool
is_blank_byte b = b == 32 || b == 9 || b == 13 || b == 26
