-- What a reader of a text in memory answers, and which records it has left then.
use Rattle.std.proofs.Common.{ℕ, ◌+◌, ◌<◌, ◌≡◌, ◌∙◌, refl, sym, ap, List, [], ◌∷◌, length, true, false, Option, Some, None, Bor, ◌⊎◌, inl, inr, add-one, arith}
use Rattle.std.specs.Prelude.{IfSome}
use Rattle.csv.specs.Machine.{Read, ends_at_end, next_record}
use Rattle.csv.specs.Reading.{NextIs, ReadRecord, ReadsNext, TookRecord, default_config, expected_len, is_flexible, pending_of, reader_state, records_from, source_of, took_first}
use Rattle.csv.specs.declared.reader.Reader.{Reader}
use Rattle.csv.specs.declared.parser.State.{State}
use Rattle.csv.proofs.ReadFacts.{rows-end}
use Rattle.claim_file.specs.declared.rows.Taken.{Taken}
use Rattle.claim_file.specs.declared.rows.Taken.TheVariants as answer
use Rattle.claim_file.specs.Rows.{Answers, IsAt, IsTaken, IsUneven, bytes_left, records_at, rows_left}
use Rattle.claim_file.proofs.Records.{is_after, same_records, takes_a_byte}

-- ---- states and bytes

found_is : (s s2 : State) (xs ys : List ℕ) (fields : List (List ℕ)) (o : Option Read) → ends_at_end s ≡ false → next_record default_config s [] [] xs ≡ o
    → NextIs o true fields s2 ys → (ends_at_end s2 ≡ false) × (records_at s (Some xs) ≡ fields ∷ records_at s2 (Some ys))
unfolding records_from
found_is s s2 xs ys fields None b e r = cc r
found_is s s2 xs ys fields (Some p) b e r =
    let between : ends_at_end p.1 ≡ false = (is_after s [] [] xs p e).between in
    let shorter : length p.2 < length xs = takes_a_byte s xs p b e in (
      rw r.2 between,
      rw (r.1, r.2, r.3, add-one (length xs), e)
          (ap (λ (rows : List (List (List ℕ))). p.0 ∷ rows) (same_records (length xs) (length p.2 + 1) p.1 p.2 between shorter (omega arith))),
    )

-- a read that found a record
found : (s s2 : State) (xs : List ℕ) (after : Option (List ℕ)) (fields : List (List ℕ)) → ends_at_end s ≡ false
    → ReadsNext default_config s (Some xs) after true fields s2
    → (ys : List ℕ) × (after ≡ Some ys) × (ends_at_end s2 ≡ false) × (records_at s (Some xs) ≡ fields ∷ records_at s2 (Some ys))
found s s2 xs None fields b r = absurd r
found s s2 xs (Some ys) fields b r =
    let w = found_is s s2 xs ys fields (next_record default_config s [] [] xs) b refl r in
    (ys, refl, w.0, w.1)

none_is : (s : State) (xs : List ℕ) → next_record default_config s [] [] xs ≡ None → records_at s (Some xs) ≡ []
unfolding records_from
none_is s xs e = rw (add-one (length xs), e) refl

-- ---- readers

rows_are : (old new : Reader (Bor (List ℕ))) (xs ys : List ℕ) (fields : List (List ℕ)) → source_of bytes_left old ≡ Some xs
    → source_of bytes_left new ≡ Some ys → records_at (reader_state old) (Some xs) ≡ fields ∷ records_at (reader_state new) (Some ys)
    → rows_left old ≡ fields ∷ rows_left new
unfolding rows_left
rows_are old new xs ys fields e f h = rw (e, f) h

first_is : (old : Reader (Bor (List ℕ))) (xs : List ℕ) (rows : List (List (List ℕ))) → source_of bytes_left old ≡ Some xs
    → records_at (reader_state old) (Some xs) ≡ rows → rows_left old ≡ rows
unfolding rows_left
first_is old xs rows e h = rw e h

even : (expected after : Option ℕ) (size : ℕ) → IfSome expected (λ e. after ≡ Some e) → after ≡ Some size → IfSome expected (λ e. size ≡ e)
even None after size h e = tt
even (Some n) after size h e = cc

pub taken : (old new : Reader (Bor (List ℕ))) (fields : List (List ℕ)) → IsAt old → ReadRecord bytes_left old new true fields
    → took_first new ≡ true → is_flexible new ≡ is_flexible old → IsTaken old new fields
taken old new fields at r first flexible =
    let w = found (reader_state old) (reader_state new) at.bytes (pending_of (bytes_left new.rdr) new) fields at.between (rw (at.config, at.known) at r.0) in
    let known : source_of bytes_left new ≡ Some w.0 = rw r.1 w.1 in
    let sizes = r.5 refl at.strict in
    record {
      at = record {
        plain = r.3 ∙ at.plain;
        config = r.2 ∙ at.config;
        strict = flexible ∙ at.strict;
        ready = inl first;
        between = w.2;
        bytes = w.0;
        known = known;
      };
      width = sizes.1;
      even = even (expected_len old) (expected_len new) (length fields) sizes.0 sizes.1;
      rows = rows_are old new at.bytes w.0 fields at.known known w.3;
    }

pub uneven : (old new : Reader (Bor (List ℕ))) (fields : List (List ℕ)) (width : ℕ) → IsAt old → expected_len old ≡ Some width
    → (width ≡ length fields → ⊥) → TookRecord bytes_left old new fields → IsUneven old
uneven old new fields width at expected other took =
    let w = found (reader_state old) (reader_state new) at.bytes (pending_of (bytes_left new.rdr) new) fields at.between (rw (at.config, at.known) at took) in
    record {
      width = width;
      expected = expected;
      fields = fields;
      uneven = λ e. other (sym e);
      more = records_at (reader_state new) (Some w.0);
      rows = first_is old at.bytes (fields ∷ records_at (reader_state new) (Some w.0)) at.known w.3;
    }

pub ended : (old new : Reader (Bor (List ℕ))) (fields : List (List ℕ)) → IsAt old → ReadRecord bytes_left old new false fields → rows_left old ≡ []
ended old new fields at r =
    first_is old at.bytes [] at.known (none_is (reader_state old) at.bytes (rows-end bytes_left old new fields default_config at.bytes at.config at.known r))

-- ---- what an answer says

pub as_record : (t : Taken) (old new : Reader (Bor (List ℕ))) (fields : List (List ℕ)) → t ≡ answer.Record → Answers t old new fields → IsTaken old new fields
unfolding Answers
as_record t old new fields e h = rw e at h

pub as_uneven : (t : Taken) (old new : Reader (Bor (List ℕ))) (fields : List (List ℕ)) → t ≡ answer.OtherLength → Answers t old new fields → IsUneven old
unfolding Answers
as_uneven t old new fields e h = rw e at h

pub as_end : (t : Taken) (old new : Reader (Bor (List ℕ))) (fields : List (List ℕ)) → t ≡ answer.End → Answers t old new fields → rows_left old ≡ []
unfolding Answers
as_end t old new fields e h = rw e at h

pub as_wide : (expected : Option ℕ) (width size : ℕ) → expected ≡ Some width → IfSome expected (λ e. size ≡ e) → size ≡ width
as_wide expected width size e h = rw e at h

pub not_as_wide : (u width size : ℕ) (expected : Option ℕ) → expected ≡ Some u → expected ≡ Some width → (size ≡ u → ⊥) → size ≡ width → ⊥
not_as_wide u width size expected e f other is = other (cc)

-- a record is left, whether it was taken or not
pub as_some : (t : Taken) (old new : Reader (Bor (List ℕ))) (fields : List (List ℕ)) → (t ≡ answer.Record) ⊎ (t ≡ answer.OtherLength)
    → Answers t old new fields → (next : List (List ℕ)) × (rest : List (List (List ℕ))) × (rows_left old ≡ next ∷ rest)
as_some t old new fields (inl e) h = (fields, rows_left new, (as_record t old new fields e h).rows)
as_some t old new fields (inr e) h = let u = as_uneven t old new fields e h in (u.fields, u.more, u.rows)
