-- What the records that are left say, put behind the lamps that were read.
use Rattle.std.proofs.Common.{ℕ, suc, ◌+◌, ◌<◌, ◌≡◌, ◌∙◌, refl, sym, List, [], ◌∷◌, ◌++◌, length, arith, append_assoc, eq-eqb}
use Rattle.std.specs.Prelude.{Result, Ok, Err}
use Rattle.std.proofs.lemmas.List.{append-nil}
use Rattle.std.proofs.lemmas.Bool.{lt-leb, lt-ltb, ne_eqb}
use Rattle.csv.specs.Reading.{default_config, records, strip_bom}
use Rattle.decimal_text.specs.Steps.{◌>>=◌}
use Rattle.dimming_plan.specs.declared.entry.PlanLamp.{PlanLamp}
use Rattle.dimming_plan.specs.declared.fault.PlanFault.{PlanFault}
use Rattle.dimming_plan.specs.declared.fault.PlanFault.TheVariants as fault
use Rattle.dimming_plan.specs.PlanFile.{lamp_in, lamp_of, lamps_from, plan_after, plan_of}

-- more lamps behind those
abbrev pub behind : List PlanLamp → Result (List PlanLamp) PlanFault → Result (List PlanLamp) PlanFault
behind read (Ok more) = Ok (read ++ more)
behind read (Err e) = Err e

pub at_first : (r : Result (List PlanLamp) PlanFault) → r ≡ behind [] r
at_first (Ok more) = refl
at_first (Err e) = refl

-- ---- the next record

put_before : (read : List PlanLamp) (lamp : PlanLamp) (r : Result (List PlanLamp) PlanFault)
    → behind read (r >>= λ more. Ok (lamp ∷ more)) ≡ behind (read ++ (lamp ∷ [])) r
put_before read lamp (Ok more) = rw (append_assoc read (lamp ∷ []) more) refl
put_before read lamp (Err e) = refl

-- it is one of as many fields as the header, and there is a lamp for it
wanted : (lamps width n : ℕ) (fields : List (List ℕ)) → n < lamps → length fields ≡ width → lamp_of lamps width n fields ≡ lamp_in n fields
unfolding lamp_of
wanted lamps width n fields l e = rw (lt-ltb n lamps l, eq-eqb (length fields) width e) refl

pub one_more : (lamps width n : ℕ) (rows : List (List (List ℕ))) (fields : List (List ℕ)) (rest : List (List (List ℕ))) (read : List PlanLamp) (lamp : PlanLamp)
    → n < lamps → rows ≡ fields ∷ rest → length fields ≡ width → lamp_in n fields ≡ Ok lamp
    → behind read (lamps_from lamps width n rows) ≡ behind (read ++ (lamp ∷ [])) (lamps_from lamps width (n + 1) rest)
unfolding lamps_from
one_more lamps width n rows fields rest read lamp l is even said =
    rw (is, wanted lamps width n fields l even, said) (put_before read lamp (lamps_from lamps width (n + 1) rest))

pub refused : (lamps width n : ℕ) (rows : List (List (List ℕ))) (fields : List (List ℕ)) (rest : List (List (List ℕ))) (read : List PlanLamp) (e : PlanFault)
    → n < lamps → rows ≡ fields ∷ rest → length fields ≡ width → lamp_in n fields ≡ Err e
    → behind read (lamps_from lamps width n rows) ≡ Err e
unfolding lamps_from
refused lamps width n rows fields rest read e l is even said = rw (is, wanted lamps width n fields l even, said) refl

pub uneven : (lamps width n : ℕ) (rows : List (List (List ℕ))) (fields : List (List ℕ)) (rest : List (List (List ℕ))) (read : List PlanLamp)
    → n < lamps → rows ≡ fields ∷ rest → (length fields ≡ width → ⊥)
    → behind read (lamps_from lamps width n rows) ≡ Err (fault.Record (n + 1))
unfolding lamps_from lamp_of
uneven lamps width n rows fields rest read l is other = rw (is, lt-ltb n lamps l, ne_eqb (length fields) width other) refl

-- ---- at the end

pub missing : (lamps width n : ℕ) (rows : List (List (List ℕ))) (read : List PlanLamp) → n < lamps → rows ≡ []
    → behind read (lamps_from lamps width n rows) ≡ Err fault.Count
unfolding lamps_from
missing lamps width n rows read l is = rw (is, ne_eqb n lamps (λ e. absurd (omega arith))) refl

pub too_many : (lamps width n : ℕ) (rows : List (List (List ℕ))) (fields : List (List ℕ)) (rest : List (List (List ℕ))) (read : List PlanLamp)
    → n ≡ lamps → rows ≡ fields ∷ rest → behind read (lamps_from lamps width n rows) ≡ Err fault.Count
unfolding lamps_from lamp_of
too_many lamps width n rows fields rest read e is = rw (is, lt-leb (suc n) lamps (omega arith)) refl

pub all_read : (lamps width n : ℕ) (rows : List (List (List ℕ))) (read : List PlanLamp) → n ≡ lamps → rows ≡ []
    → behind read (lamps_from lamps width n rows) ≡ Ok read
unfolding lamps_from
all_read lamps width n rows read e is = rw (is, eq-eqb n lamps e, append-nil read) refl

-- ---- the header

pub after_header : (bytes : List ℕ) (lamps width : ℕ) (rows : List (List (List ℕ))) (header : List (List ℕ)) (rest : List (List (List ℕ)))
    → rows ≡ records default_config (strip_bom bytes) → rows ≡ header ∷ rest → length header ≡ width → plan_of bytes lamps ≡ lamps_from lamps width 0 rest
unfolding plan_of plan_after
after_header bytes lamps width rows header rest all is wide = rw (sym all, is, wide) refl

no_header : (bytes : List ℕ) (lamps : ℕ) (rows : List (List (List ℕ))) → rows ≡ records default_config (strip_bom bytes) → rows ≡ []
    → plan_of bytes lamps ≡ lamps_from lamps 0 0 []
unfolding plan_of plan_after
no_header bytes lamps rows all is = rw (sym all, is) refl

pub no_lamp : (bytes : List ℕ) (lamps : ℕ) (rows : List (List (List ℕ))) → rows ≡ records default_config (strip_bom bytes) → rows ≡ [] → lamps ≡ 0
    → plan_of bytes lamps ≡ Ok []
unfolding lamps_from
no_lamp bytes lamps rows all is none = no_header bytes lamps rows all is ∙ rw none refl

pub no_record : (bytes : List ℕ) (lamps : ℕ) (rows : List (List (List ℕ))) → rows ≡ records default_config (strip_bom bytes) → rows ≡ []
    → (lamps ≡ 0 → ⊥) → plan_of bytes lamps ≡ Err fault.Count
unfolding lamps_from
no_record bytes lamps rows all is some = no_header bytes lamps rows all is ∙ rw (ne_eqb 0 lamps (λ e. some (sym e))) refl
