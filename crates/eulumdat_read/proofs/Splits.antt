-- The lines of bytes: the first one, and those after its LF.
use Rattle.std.proofs.Common.{ℕ, zero, suc, ◌+◌, ◌<◌, ◌≤◌, ◌≡◌, ◌==◌, not, Bool, true, false, if◌then◌else◌, List, [], ◌∷◌, length, map, take, drop, arith, refl, ◌∙◌, inl, inr}
use Rattle.std.specs.List.{prefix_len}
use Rattle.std.proofs.Math.Seq.{take-length, drop-length}
use Rattle.std.proofs.lemmas.List.{drop-drop, length-drop}
use Rattle.fx_base.proofs.SearchLaws.{is_true_or_false}
use Rattle.eulumdat_read.specs.Lines.{onto_first, pieces, without_cr, but_empty_last, lines_of}

abbrev pub not_lf : ℕ → Bool
not_lf b = not (b == 10)

-- cut at the first LF, which is byte n
pieces_cut : (bytes : List ℕ) (n : ℕ) → prefix_len not_lf bytes ≡ n → n < length bytes → pieces bytes ≡ take n bytes ∷ pieces (drop (suc n) bytes)
unfolding pieces
pieces_cut [] n h p = absurd (omega arith)
pieces_cut (b ∷ bytes) zero h p = elim (is_true_or_false (b == 10)) [
  | inl e ↦ rw e refl
  | inr e ↦ let g = rw e at h in absurd (omega arith)
]
pieces_cut (b ∷ bytes) (suc n) h p = elim (is_true_or_false (b == 10)) [
  | inl e ↦ let g = rw e at h in absurd (omega arith)
  | inr e ↦ let g = rw e at h in let r = pieces_cut bytes n (omega arith) (omega arith) in rw (e, r) refl
]

-- with no LF there is one piece
pieces_whole : (bytes : List ℕ) → prefix_len not_lf bytes ≡ length bytes → pieces bytes ≡ bytes ∷ []
unfolding pieces
pieces_whole [] h = refl
pieces_whole (b ∷ bytes) h = elim (is_true_or_false (b == 10)) [
  | inl e ↦ let g = rw e at h in absurd (omega arith)
  | inr e ↦ let g = rw e at h in let r = pieces_whole bytes (omega arith) in rw (e, r) refl
]

-- there is always a piece
record IsSome (lines : List (List ℕ)) : Type 0 where
  line : List ℕ
  rest : List (List ℕ)
  is : lines ≡ line ∷ rest

onto_some : (b : ℕ) (lines : List (List ℕ)) → IsSome (onto_first b lines)
onto_some b [] = record { line = b ∷ []; rest = []; is = refl }
onto_some b (line ∷ lines) = record { line = b ∷ line; rest = lines; is = refl }

some_piece : (bytes : List ℕ) → IsSome (pieces bytes)
unfolding pieces
some_piece [] = record { line = []; rest = []; is = refl }
some_piece (b ∷ bytes) = elim (is_true_or_false (b == 10)) [
  | inl e ↦ rw e (let s : IsSome ([] ∷ pieces bytes) = record { line = []; rest = pieces bytes; is = refl } in s)
  | inr e ↦ rw e (onto_some b (pieces bytes))
]

last_later : (line : List ℕ) (lines : List (List ℕ)) → IsSome lines → but_empty_last (line ∷ map without_cr lines) ≡ line ∷ but_empty_last (map without_cr lines)
unfolding but_empty_last
last_later line lines s = rw s.is refl

pub lines_cut : (bytes : List ℕ) (n : ℕ) → prefix_len not_lf bytes ≡ n → n < length bytes → lines_of bytes ≡ without_cr (take n bytes) ∷ lines_of (drop (suc n) bytes)
unfolding lines_of
lines_cut bytes n h p = rw (pieces_cut bytes n h p) (last_later (without_cr (take n bytes)) (pieces (drop (suc n) bytes)) (some_piece (drop (suc n) bytes)))

pub lines_whole : (bytes : List ℕ) → prefix_len not_lf bytes ≡ length bytes → lines_of bytes ≡ (if length (without_cr bytes) == 0 then [] else without_cr bytes ∷ [])
unfolding lines_of but_empty_last
lines_whole bytes h = rw (pieces_whole bytes h) refl

pub no_lines : lines_of [] ≡ []
unfolding lines_of pieces but_empty_last
no_lines = refl

-- ---- at a place

-- the line before the first LF
pub line_taken : (bytes : List ℕ) (at n next : ℕ) (line : List ℕ) → prefix_len not_lf (drop at bytes) ≡ n → n < length (drop at bytes) → line ≡ without_cr (take n (drop at bytes)) → next ≡ at + (n + 1)
    → lines_of (drop at bytes) ≡ line ∷ lines_of (drop next bytes)
line_taken bytes at n next line h p e f =
    let s : suc n ≡ n + 1 = omega arith in
    let g = drop-drop (n + 1) at bytes in
    lines_cut (drop at bytes) n h p ∙ rw (s, g, e, f) refl

-- the last line, which isn't empty
pub last_line : (bytes : List ℕ) (at n next : ℕ) (line : List ℕ) → prefix_len not_lf (drop at bytes) ≡ n → n ≡ length (drop at bytes) → line ≡ without_cr (take n (drop at bytes)) → next ≡ at + n → at ≤ length bytes
    → (length line == 0) ≡ false → lines_of (drop at bytes) ≡ line ∷ lines_of (drop next bytes)
last_line bytes at n next line h p e f within some =
    let d = length-drop at bytes in
    let g : length bytes ≡ next = omega (arith, d) in
    let all : drop next bytes ≡ [] = rw (← g) (drop-length bytes) in
    let whole : line ≡ without_cr (drop at bytes) = e ∙ rw (p, take-length (drop at bytes)) refl in
    let some' = rw whole at some in
    lines_whole (drop at bytes) (h ∙ p) ∙ rw (some', all, no_lines, whole) refl

-- an empty one isn't a line
pub none_at_end : (rest : List ℕ) (n : ℕ) (line : List ℕ) → prefix_len not_lf rest ≡ n → n ≡ length rest → line ≡ without_cr (take n rest) → (length line == 0) ≡ true → lines_of rest ≡ []
none_at_end rest n line h p e none =
    let whole : line ≡ without_cr rest = e ∙ rw (p, take-length rest) refl in
    let none' = rw whole at none in
    lines_whole rest (h ∙ p) ∙ rw none' refl

pub some_bytes : (rest : List ℕ) (n : ℕ) (line : List ℕ) → line ≡ without_cr (take n rest) → (length line == 0) ≡ false → 0 < n
some_bytes rest zero line e some = let g = rw e at some in absurd cc
some_bytes rest (suc n) line e some = omega arith
