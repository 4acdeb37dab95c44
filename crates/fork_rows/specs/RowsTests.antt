-- Two rows from the index 5 on, 10 and 20, to which the squares of their indices are added: 10 + 25 and 20 + 36.
use Rattle.std.specs.Prelude.{ℕ, ◌≡◌, ◌+◌, ◌*◌, List, [], ◌∷◌, refl, slice_index_or}
use Rattle.std.proofs.Common.{lit<}
use borrow.Author.Count.{below_more, below_none}
use Rattle.fork_rows.specs.Rows.{EachRow, EachChange}

abbrev with_square : ℕ → ℕ → ℕ → Type 0
with_square i old new = new ≡ old + i * i

abbrev old_rows : List ℕ
old_rows = 10 ∷ 20 ∷ []

abbrev new_rows : List ℕ
new_rows = 35 ∷ 56 ∷ []

squares_are_added : EachChange with_square 5 old_rows new_rows
squares_are_added = record {
  each = λ k d l.
      let P : ℕ → Type 0 = λ i. with_square (5 + i) (slice_index_or old_rows i d) (slice_index_or new_rows i d) in
      below_more P 1 (below_more P 0 (below_none P) refl) refl k l;
}

-- the second of them has the index 6 in the whole list, and not the index 1
square_of_one : with_square 6 20 21 → ⊥
square_of_one e = cc

numbered_within_the_part : EachChange with_square 5 old_rows (35 ∷ 21 ∷ []) → ⊥
numbered_within_the_part change = square_of_one (change.each 1 0 (lit< tt))

-- ten times the index is the row and 40 more: 50 and 60
rows_from_five : EachRow (λ i row. 10 * i ≡ row + 40) 5 2 old_rows
rows_from_five = record {
  size = refl;
  room = lit< tt;
  each = λ k d l.
      let P : ℕ → Type 0 = λ i. 10 * (5 + i) ≡ slice_index_or old_rows i d + 40 in
      below_more P 1 (below_more P 0 (below_none P) refl) refl k l;
}
