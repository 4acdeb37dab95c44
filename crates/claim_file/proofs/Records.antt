-- Every record of a text: from a state between two records, any number of turns above the number of bytes finds the same ones.
use Rattle.std.proofs.Common.{ℕ, zero, suc, ◌<◌, ◌≤◌, ◌≡◌, ◌==◌, refl, ap, subst, arith, List, [], ◌∷◌, length, Bool, true, false, Option, Some, None, inl, inr}
use Rattle.std.specs.Prelude.{if◌then◌else◌}
use Rattle.std.proofs.lemmas.Bool.{cases_Bool}
use Rattle.csv.specs.Machine.{Read, after_end, ends_at_end, ends_with, in_field, is_end, next_record, start_field, start_record, step, fields_after}
use Rattle.csv.specs.Reading.{default_config, records_from, records_next}
use Rattle.csv.specs.declared.parser.State.{State}
use Rattle.csv.specs.declared.parser.State.TheVariants as st
use Rattle.csv.specs.declared.parser.Action.{Action}
use Rattle.csv.specs.declared.parser.Action.TheVariants as act
use Rattle.csv.specs.declared.parser.Terminator.TheVariants as term

-- ---- a byte that ends a record leaves the reader between two records

abbrev Settles : State × Action → Type 0
Settles next = is_end next.1 ≡ true → ends_at_end next.0 ≡ false

either : (b : Bool) (x y : State × Action) → Settles x → Settles y → Settles (if b then x else y)
either true x y p q = p
either false x y p q = q

after_end_settles : (c : ℕ) → ends_at_end (after_end term.CRLF c) ≡ false
after_end_settles c = elim (cases_Bool (c == 13)) [ inl is ↦ rw is refl | inr other ↦ rw other refl ]

in_field_settles : (c : ℕ) → Settles (in_field default_config c)
in_field_settles c =
    either (c == 44) (st.StartField, act.EndField) (if ends_with term.CRLF c then (after_end term.CRLF c, act.EndRecord) else (st.InField, act.Copy))
    (λ e. cc e) (either (ends_with term.CRLF c) (after_end term.CRLF c, act.EndRecord) (st.InField, act.Copy) (λ e. after_end_settles c) (λ e. cc e))

start_field_settles : (c : ℕ) → Settles (start_field default_config c)
start_field_settles c = either (c == 34) (st.InQuoted, act.Skip) (in_field default_config c) (λ e. cc e) (in_field_settles c)

start_record_settles : (c : ℕ) → Settles (start_record default_config c)
start_record_settles c =
    either (ends_with term.CRLF c) (st.StartRecord, act.Skip) (start_field default_config c) (λ e. refl) (start_field_settles c)

step_settles : (s : State) (c : ℕ) → Settles (step default_config s c)
step_settles st.StartRecord c = start_record_settles c
step_settles st.StartField c = start_field_settles c
step_settles st.InField c = in_field_settles c
step_settles st.InQuoted c = either (c == 34) (st.AfterQuote, act.Skip) (st.InQuoted, act.Copy) (λ e. cc e) (λ e. cc e)
step_settles st.InEscape c = λ e. cc e
step_settles st.AfterQuote c = either (c == 34) (st.InQuoted, act.Copy) (in_field default_config c) (λ e. cc e) (in_field_settles c)
step_settles st.InComment c = either (c == 10) (st.StartRecord, act.Skip) (st.InComment, act.Skip) (λ e. refl) (λ e. cc e)
step_settles st.AfterCr c = either (c == 10) (st.StartRecord, act.Skip) (start_record default_config c) (λ e. refl) (start_record_settles c)

-- ---- what stands after a record

pub record IsAfter (xs : List ℕ) (p : Read) : Type 0 where
  pub between : ends_at_end p.1 ≡ false
  pub shorter : length p.2 ≤ length xs

the_same : (xs : List ℕ) (x p : Read) → IsAfter xs x → Some x ≡ Some p → IsAfter xs p
the_same xs x p h e = let q : x ≡ p = cc e in subst (λ (r : Read). IsAfter xs r) q h

at_last : (b : Bool) (xs : List ℕ) (x p : Read) → IsAfter xs x → (if b then Some x else None) ≡ Some p → IsAfter xs p
at_last true xs x p h e = the_same xs x p h e
at_last false xs x p h e = cc e

longer : (c : ℕ) (rest : List ℕ) (p : Read) → IsAfter rest p → IsAfter (c ∷ rest) p
longer c rest p h = record { between = h.between; shorter = omega arith }

pub is_after : (s : State) (fields : List (List ℕ)) (field xs : List ℕ) (p : Read) → next_record default_config s fields field xs ≡ Some p → IsAfter xs p
unfolding next_record
is_after s fields field [] p e = at_last (ends_at_end s) [] _ p (record { between = refl; shorter = omega arith }) e
is_after s fields field (c ∷ rest) p e = elim (cases_Bool (is_end (step default_config s c).1)) [
  | inl ends ↦
      the_same (c ∷ rest) (fields_after (step default_config s c).1 fields field, (step default_config s c).0, rest) p
      (record { between = step_settles s c ends; shorter = omega arith }) (rw ends at e)
  | inr goes ↦ longer c rest p (is_after (step default_config s c).0 _ _ rest p (rw goes at e))
]

fewer : (c : ℕ) (rest : List ℕ) (p : Read) → length rest ≡ length p.2 → length p.2 < length (c ∷ rest)
fewer c rest p e = omega arith

below : (c : ℕ) (rest : List ℕ) (p : Read) → IsAfter rest p → length p.2 < length (c ∷ rest)
below c rest p h = omega arith

-- from between two records a record takes a byte at least
pub takes_a_byte : (s : State) (xs : List ℕ) (p : Read) → ends_at_end s ≡ false → next_record default_config s [] [] xs ≡ Some p → length p.2 < length xs
unfolding next_record
takes_a_byte s [] p b e = cc (rw b at e)
takes_a_byte s (c ∷ rest) p b e = elim (cases_Bool (is_end (step default_config s c).1)) [
  | inl ends ↦ let q : (fields_after (step default_config s c).1 [] [], (step default_config s c).0, rest) ≡ p = cc (rw ends at e) in fewer c rest p (ap (λ (r : Read). length r.2) q)
  | inr goes ↦ below c rest p (is_after (step default_config s c).0 _ _ rest p (rw goes at e))
]

-- ---- every record

-- the records of two numbers of turns, where each record is followed by the same ones
same_next : (n m : ℕ) (s : State) (xs : List ℕ) (o : Option Read) → next_record default_config s [] [] xs ≡ o
    → ((p : Read) → o ≡ Some p → records_from default_config n p.1 p.2 ≡ records_from default_config m p.1 p.2)
    → records_next (records_from default_config n) o ≡ records_next (records_from default_config m) o
same_next n m s xs None e h = refl
same_next n m s xs (Some p) e h = ap (λ (rows : List (List (List ℕ))). p.0 ∷ rows) (h p refl)

pub same_records : (n m : ℕ) (s : State) (xs : List ℕ) → ends_at_end s ≡ false → length xs < n → length xs < m
    → records_from default_config n s xs ≡ records_from default_config m s xs
unfolding records_from
same_records zero m s xs b p q = absurd (omega arith)
same_records (suc n) zero s xs b p q = absurd (omega arith)
same_records (suc n) (suc m) s xs b p q =
    same_next n m s xs (next_record default_config s [] [] xs) refl
    (λ r e.
    let shorter : length r.2 < length xs = takes_a_byte s xs r b e in
    same_records n m r.1 r.2 (is_after s [] [] xs r e).between (omega arith) (omega arith))
