-- A text that grows by a piece for each point, in their order.
use Rattle.std.proofs.Common.{ℕ, ◌+◌, ◌<◌, ◌≡◌, ◌∙◌, List, [], ◌∷◌, ◌++◌, length, drop, drop-cons, append_assoc, append-nil, add-one, ap, sym, refl, arith, flat_map}
use Rattle.std.specs.Prelude.{slice_index_or, Option, None}
use Rattle.std.proofs.Math.Seq.{drop-length}
use Rattle.csv.specs.Writing.{default_writer, row_text}
use Rattle.report_form.specs.Grid.{point_record, point_records}
use Rattle.report_form.specs.Spelled.{point_line, point_lines}
use Rattle.report_form.specs.declared.report.Printed.{Printed}

-- the pieces of the points from the k-th on, as a text of those before it and of the piece of each
pub record IsByPoint (piece : ℕ → Option Printed → List ℕ) (pieces : ℕ → List (Option Printed) → List ℕ) : Type 0 where
  pub none : (k : ℕ) → pieces k [] ≡ []
  pub more : (k : ℕ) (e : Option Printed) (points : List (Option Printed)) → pieces k (e ∷ points) ≡ piece k e ++ pieces (k + 1) points

-- the text so far, with the pieces of the points that are left after it, is the text before and the pieces of all
pub record IsSoFar (pieces : ℕ → List (Option Printed) → List ℕ) (points : List (Option Printed)) (before : List ℕ) (place index : ℕ) (text : List ℕ) : Type 0 where
  pub same : index ≡ place
  pub all : text ++ pieces place (drop place points) ≡ before ++ pieces 0 points

-- one more piece is that of the next point
pub one_more : (piece : ℕ → Option Printed → List ℕ) (pieces : ℕ → List (Option Printed) → List ℕ) (points : List (Option Printed)) (before : List ℕ) (k j : ℕ) (text new : List ℕ)
    → IsByPoint piece pieces → k < length points → new ≡ text ++ piece j (slice_index_or points k None)
    → IsSoFar pieces points before k j text → IsSoFar pieces points before (k + 1) (j + 1) new
one_more piece pieces points before k j text new by h grown so_far =
    let same = so_far.same in
    let e = slice_index_or points k None in
    let d : drop k points ≡ e ∷ drop (k + 1) points = rw add-one (drop-cons points k None h) in
    let opened : pieces k (drop k points) ≡ piece k e ++ pieces (k + 1) (drop (k + 1) points) =
    ap (λ (xs : List (Option Printed)). pieces k xs) d ∙ by.more k e (drop (k + 1) points) in
    record { same = omega arith; all = rw (grown, append_assoc, same, ← opened) so_far.all }

-- past the last point the text has the pieces of all
pub all_done : (piece : ℕ → Option Printed → List ℕ) (pieces : ℕ → List (Option Printed) → List ℕ) (points : List (Option Printed)) (before : List ℕ) (k j : ℕ) (text : List ℕ)
    → IsByPoint piece pieces → k ≡ length points → IsSoFar pieces points before k j text → text ≡ before ++ pieces 0 points
all_done piece pieces points before k j text by e so_far =
    let left : drop k points ≡ [] = rw e (drop-length points) in
    let none : pieces k (drop k points) ≡ [] = ap (λ (xs : List (Option Printed)). pieces k xs) left ∙ by.none k in
    sym (append-nil text) ∙ ap (λ (z : List ℕ). text ++ z) (sym none) ∙ so_far.all

-- ---- the lines of a report, and the records of its grid

pub lines_by_point : (columns : ℕ) → IsByPoint (point_line columns) (point_lines columns)
unfolding point_lines
lines_by_point columns = record { none = λ k. refl; more = λ k e points. refl }

-- the bytes of one record
abbrev pub record_bytes : ℕ → ℕ → Option Printed → List ℕ
record_bytes columns k e = row_text default_writer (point_record columns k e)

-- the bytes of the records from the k-th on
abbrev pub records_bytes : ℕ → ℕ → List (Option Printed) → List ℕ
records_bytes columns k points = flat_map (row_text default_writer) (point_records columns k points)

pub records_by_point : (columns : ℕ) → IsByPoint (record_bytes columns) (records_bytes columns)
unfolding point_records
records_by_point columns = record { none = λ k. refl; more = λ k e points. refl }
