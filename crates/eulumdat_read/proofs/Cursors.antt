-- From line to line.
use Rattle.std.proofs.Common.{ℕ, zero, suc, ◌+◌, ◌-◌, ◌<◌, ◌≡◌, List, [], ◌∷◌, length, drop, slice_index_or, arith, refl, ap, sym, ◌∙◌, Result, Ok, Err}
use Rattle.std.proofs.lemmas.List.{length-drop}
use Rattle.fx_base.proofs.Truth.{le_false, le_true}
use Rattle.eulumdat_read.specs.Cursors.{IsAt, IsAtEnd, Takes, lines_from}
use Rattle.eulumdat_read.specs.Items.{line_at}
use Rattle.eulumdat_read.specs.Lines.{lines_of}
use Rattle.eulumdat_read.specs.declared.line.Cursor.{Cursor}
use Rattle.eulumdat_read.specs.declared.fault.LdtFault.{LdtFault}
use Rattle.eulumdat_read.specs.declared.fault.LdtFault.TheVariants as fault

-- what is left of a list after n of it, one by one
first_left : {A : Type 0} (xs : List A) (n : ℕ) (x d : A) (ys : List A) → x ∷ ys ≡ drop n xs → (n < length xs) × ((slice_index_or xs n d ≡ x) × (ys ≡ drop (n + 1) xs))
first_left [] zero x d ys h = cc
first_left [] (suc n) x d ys h = cc
first_left (z ∷ xs) zero x d ys h = (omega arith, (cc, cc))
first_left (z ∷ xs) (suc n) x d ys h = let r = first_left xs n x d ys h in let e : suc n + 1 ≡ suc (n + 1) = omega arith in (let p = r.0 in omega arith, (r.1.0, rw e r.1.1))

pub line_there : (lines : List (List ℕ)) (n : ℕ) (line : List ℕ) → n < length lines → slice_index_or lines n [] ≡ line → line_at lines (n + 1) ≡ Ok line
unfolding line_at
line_there lines n line h e = let f : n + 1 - 1 ≡ n = omega arith in rw (le_true (n + 1) (length lines) (omega arith), f, e) refl

pub line_missing : (lines : List (List ℕ)) (k : ℕ) → length lines < k → line_at lines k ≡ Err (fault.Short (length lines + 1))
unfolding line_at
line_missing lines k h = rw (le_false k (length lines) h) refl

pub taken : (bytes : List ℕ) (old new : Cursor) (line : List ℕ) → IsAt bytes old → Takes bytes old new line
    → (line_at (lines_of bytes) (old.line + 1) ≡ Ok line) × (IsAt bytes new × (new.line ≡ old.line + 1))
taken bytes old new line at t =
    let f = first_left (lines_of bytes) old.line line [] (lines_from bytes new.at) (sym t.first ∙ at.rest) in
    let c = t.count in
    let g = t.further in
    let few = at.few in
    let l = f.0 in (
      line_there (lines_of bytes) old.line line f.0 f.1.0,
      (record { rest = rw c f.1.1; within = t.within; few = omega arith; taken = omega arith }, c),
    )

pub all_taken : (bytes : List ℕ) (c : Cursor) → IsAt bytes c → IsAtEnd bytes c → length (lines_of bytes) ≡ c.line
all_taken bytes c at end =
    let e = ap (λ (xs : List (List ℕ)). length xs) (sym at.rest ∙ end.nothing) in
    let d = length-drop c.line (lines_of bytes) in
    let t = at.taken in omega (arith, e, d)

pub none_left : (bytes : List ℕ) (old new : Cursor) → IsAt bytes old → IsAtEnd bytes old → new ≡ old → (k : ℕ) → old.line < k → line_at (lines_of bytes) k ≡ Err (fault.Short (new.line + 1))
none_left bytes old new at end same k h =
    let e = all_taken bytes old at end in
    let f = ap (λ (c : Cursor). c.line) same in
    let g : length (lines_of bytes) ≡ new.line = omega (arith, e, f) in
    line_missing (lines_of bytes) k (omega (arith, e)) ∙ ap (λ (n : ℕ). let r : Result (List ℕ) LdtFault = Err (fault.Short (n + 1)) in r) g

-- the lines that are left, the first of them first
pub left_of : (bytes : List ℕ) (old new : Cursor) (line : List ℕ) → IsAt bytes old → Takes bytes old new line → drop old.line (lines_of bytes) ≡ line ∷ drop new.line (lines_of bytes)
left_of bytes old new line at t =
    let f = first_left (lines_of bytes) old.line line [] (lines_from bytes new.at) (sym t.first ∙ at.rest) in
    sym at.rest ∙ t.first ∙ rw (t.count, ← f.1.1) refl
