-- What the records that are left say, put behind what was read.
use Rattle.std.proofs.Common.{ℕ, suc, ◌+◌, ◌<◌, ◌≡◌, refl, List, [], ◌∷◌, ◌++◌, length, arith, append_assoc, map, eq-eqb}
use Rattle.std.specs.Prelude.{Result, Ok, Err}
use Rattle.std.proofs.lemmas.List.{append-nil}
use Rattle.std.proofs.lemmas.Bool.{lt-leb, lt-ltb, ne_eqb}
use Rattle.fx_base.specs.declared.Tick.{Tick}
use Rattle.claim_file.specs.declared.entry.Entry.{Entry}
use Rattle.claim_file.specs.declared.fault.ClaimFault.{ClaimFault}
use Rattle.claim_file.specs.declared.fault.ClaimFault.TheVariants as fault
use Rattle.claim_file.specs.Claims.{Claim, claim_from, claim_with, entries_of, entry_in, entry_of}
use Rattle.decimal_text.specs.Steps.{◌>>=◌}

-- the bounds of these patches behind those
abbrev pub behind : List Tick → List Tick → Result (List Entry) ClaimFault → Result Claim ClaimFault
behind lower upper (Ok entries) = Ok (record { lower = lower ++ map (λ e. e.lower) entries; upper = upper ++ map (λ e. e.upper) entries })
behind lower upper (Err e) = Err e

none_yet : (r : Result (List Entry) ClaimFault) → (r >>= λ entries. Ok (claim_with entries)) ≡ behind [] [] r
none_yet (Ok entries) = refl
none_yet (Err e) = refl

pub at_first : (patches width : ℕ) (rows : List (List (List ℕ))) → claim_from patches width rows ≡ behind [] [] (entries_of patches width 0 rows)
unfolding claim_from
at_first patches width rows = none_yet (entries_of patches width 0 rows)

-- ---- the next record

put_before : (lower upper : List Tick) (e : Entry) (r : Result (List Entry) ClaimFault)
    → behind lower upper (r >>= λ entries. Ok (e ∷ entries)) ≡ behind (lower ++ (e.lower ∷ [])) (upper ++ (e.upper ∷ [])) r
put_before lower upper e (Ok entries) =
    rw (append_assoc lower (e.lower ∷ []) (map (λ x. x.lower) entries), append_assoc upper (e.upper ∷ []) (map (λ x. x.upper) entries)) refl
put_before lower upper e (Err fault) = refl

-- it is one of as many fields as the header, and there is a patch for it
wanted : (patches width n : ℕ) (fields : List (List ℕ)) → n < patches → length fields ≡ width → entry_of patches width n fields ≡ entry_in n fields
unfolding entry_of
wanted patches width n fields l e = rw (lt-ltb n patches l, eq-eqb (length fields) width e) refl

pub one_more : (patches width n : ℕ) (rows : List (List (List ℕ))) (fields : List (List ℕ)) (rest : List (List (List ℕ))) (lower upper : List Tick) (e : Entry)
    → n < patches → rows ≡ fields ∷ rest → length fields ≡ width → entry_in n fields ≡ Ok e
    → behind lower upper (entries_of patches width n rows) ≡ behind (lower ++ (e.lower ∷ [])) (upper ++ (e.upper ∷ [])) (entries_of patches width (n + 1) rest)
unfolding entries_of
one_more patches width n rows fields rest lower upper e l is even said =
    rw (is, wanted patches width n fields l even, said) (put_before lower upper e (entries_of patches width (n + 1) rest))

pub refused : (patches width n : ℕ) (rows : List (List (List ℕ))) (fields : List (List ℕ)) (rest : List (List (List ℕ))) (lower upper : List Tick) (e : ClaimFault)
    → n < patches → rows ≡ fields ∷ rest → length fields ≡ width → entry_in n fields ≡ Err e
    → behind lower upper (entries_of patches width n rows) ≡ Err e
unfolding entries_of
refused patches width n rows fields rest lower upper e l is even said = rw (is, wanted patches width n fields l even, said) refl

pub uneven : (patches width n : ℕ) (rows : List (List (List ℕ))) (fields : List (List ℕ)) (rest : List (List (List ℕ))) (lower upper : List Tick)
    → n < patches → rows ≡ fields ∷ rest → (length fields ≡ width → ⊥)
    → behind lower upper (entries_of patches width n rows) ≡ Err (fault.Record (n + 1))
unfolding entries_of entry_of
uneven patches width n rows fields rest lower upper l is other = rw (is, lt-ltb n patches l, ne_eqb (length fields) width other) refl

-- ---- at the end

pub missing : (patches width n : ℕ) (rows : List (List (List ℕ))) (lower upper : List Tick) → n < patches → rows ≡ []
    → behind lower upper (entries_of patches width n rows) ≡ Err fault.Count
unfolding entries_of
missing patches width n rows lower upper l is = rw (is, ne_eqb n patches (λ e. absurd (omega arith))) refl

pub too_many : (patches width n : ℕ) (rows : List (List (List ℕ))) (fields : List (List ℕ)) (rest : List (List (List ℕ))) (lower upper : List Tick)
    → n ≡ patches → rows ≡ fields ∷ rest → behind lower upper (entries_of patches width n rows) ≡ Err fault.Count
unfolding entries_of entry_of
too_many patches width n rows fields rest lower upper e is = rw (is, lt-leb (suc n) patches (omega arith)) refl

pub all_read : (patches width n : ℕ) (rows : List (List (List ℕ))) (lower upper : List Tick) → n ≡ patches → rows ≡ []
    → behind lower upper (entries_of patches width n rows) ≡ Ok (record { lower = lower; upper = upper })
unfolding entries_of
all_read patches width n rows lower upper e is = rw (is, eq-eqb n patches e, append-nil lower, append-nil upper) refl
