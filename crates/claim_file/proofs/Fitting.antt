-- A text is read as a claim exactly where its records fit one.
use Rattle.std.proofs.Common.{ℕ, ◌+◌, ◌^◌, ◌<◌, ◌≤◌, ◌≡◌, ◌∙◌, refl, sym, ap, subst, arith, List, [], ◌∷◌, length, Bool, true, false, Option, Some, None, ◌==◌, ◌&&◌, eq-eqb}
use Rattle.fx_base.proofs.Truth.{both_true}
use Rattle.std.specs.Prelude.{ℤ, pos, negsuc, ◌≤ℤ◌, Result, Ok, Err, nat_lt}
use Rattle.std.proofs.lemmas.Bool.{eqb-true, leb-true, le-leb, lt-ltb, ltb-true}
use Rattle.std.proofs.lemmas.Int.{ints}
use Rattle.std.specs.Fmt.{decimal}
use Rattle.csv.specs.Records.{field_at}
use Rattle.csv.specs.Reading.{default_config, records, strip_bom}
use Rattle.fx_base.specs.Bound.{IsEnd}
use Rattle.fx_base.specs.Units.{natural}
use Rattle.fx_base.specs.declared.Tick.{Tick}
use Rattle.fx_base.proofs.Rounding.{natural_most}
use Rattle.decimal_text.specs.Steps.{◌>>=◌, demand}
use Rattle.decimal_text.proofs.Steps.{both_gave}
use Rattle.claim_file.specs.declared.entry.Entry.{Entry}
use Rattle.claim_file.specs.declared.fault.ClaimFault.{ClaimFault}
use Rattle.claim_file.specs.declared.fault.ClaimFault.TheVariants as fault
use Rattle.claim_file.specs.Numbers.{number}
use Rattle.claim_file.specs.Claims.{Claim, or_fault, claim_after, claim_from, claim_of, claim_with, entries_of, entry_in, entry_of, is_end, tick}
use Rattle.claim_file.specs.Written.{digits_of}
use Rattle.claim_file.proofs.Decimals.{number-decimal, number_is}
use Rattle.claim_file.specs.Fits.{AreRows, ClaimIsRead, IsClaimText, IsRow}

-- ---- steps that gave something

held : {A E : Type 0} (b : Bool) (e : E) (r : Result A E) (y : A) → (demand b e >>= λ u. r) ≡ Ok y → (b ≡ true) × (r ≡ Ok y)
held true e r y h = (refl, h)
held false e r y h = cc h

abbrev read : Entry → Result Entry ClaimFault
read x = Ok x

abbrev ok : Claim → Result Claim ClaimFault
ok x = Ok x

-- ---- one record

-- the three numbers, where each field writes one
abbrev entry_by : ℕ → Option ℕ → Option ℕ → Option ℕ → Result Entry ClaimFault
entry_by n place low high =
    or_fault (fault.Record (n + 1)) place >>= λ patch.
    or_fault (fault.Record (n + 1)) low >>= λ lower.
    or_fault (fault.Record (n + 1)) high >>= λ upper.
    demand (is_end lower && is_end upper) (fault.Record (n + 1)) >>= λ ends.
    demand (patch == n) (fault.Order (n + 1)) >>= λ next.
    Ok (record { lower = tick lower; upper = tick upper })

record Says (n : ℕ) (place low high : Option ℕ) (e : Entry) : Type 0 where
  pub is_place : place ≡ Some n
  pub is_low : low ≡ Some (natural e.lower.0)
  pub is_high : high ≡ Some (natural e.upper.0)
  pub low_fits : IsEnd e.lower
  pub high_fits : IsEnd e.upper

tick_fits : (t : ℕ) → is_end t ≡ true → IsEnd (tick t)
tick_fits t h = let l : t ≤ 2 ^ 90 = leb-true t (2 ^ 90) h in record { low = omega (arith, ints); high = omega (arith, ints) }

same_entry : (x y : Entry) → read x ≡ Ok y → x ≡ y
same_entry x y h = cc h

says_these : (n p l u : ℕ) (e : Entry) → p ≡ n → is_end l ≡ true → is_end u ≡ true → record { lower = tick l; upper = tick u } ≡ e
    → Says n (Some p) (Some l) (Some u) e
says_these n p l u e is low high same =
    subst (λ (x : Entry). Says n (Some p) (Some l) (Some u) x) same (record {
      is_place = ap (λ (k : ℕ). Some k) is;
      is_low = refl;
      is_high = refl;
      low_fits = tick_fits l low;
      high_fits = tick_fits u high;
    })

says : (n : ℕ) (place low high : Option ℕ) (e : Entry) → entry_by n place low high ≡ Ok e → Says n place low high e
says n None low high e h = cc h
says n (Some p) None high e h = cc h
says n (Some p) (Some l) None e h = cc h
says n (Some p) (Some l) (Some u) e h =
    let a = held (is_end l && is_end u) (fault.Record (n + 1)) (demand (p == n) (fault.Order (n + 1)) >>= λ next. Ok (record { lower = tick l; upper = tick u })) e h in
    let ends = both_true (is_end l) (is_end u) a.0 in
    let b = held (p == n) (fault.Order (n + 1)) (Ok (record { lower = tick l; upper = tick u })) e a.1 in
    says_these n p l u e (eqb-true p n b.0) ends.0 ends.1 (same_entry (record { lower = tick l; upper = tick u }) e b.1)

three : (fields : List (List ℕ)) → length fields ≡ 3 → (a : List ℕ) × (b : List ℕ) × (c : List ℕ) × (fields ≡ a ∷ b ∷ c ∷ [])
three [] h = absurd (omega arith)
three (a ∷ []) h = absurd (omega arith)
three (a ∷ b ∷ []) h = absurd (omega arith)
three (a ∷ b ∷ c ∷ []) h = (a, b, c, refl)
three (a ∷ b ∷ c ∷ d ∷ more) h = absurd (omega arith)

in_three : (n : ℕ) (a b c : List ℕ) → entry_in n (a ∷ b ∷ c ∷ []) ≡ entry_by n (number a) (number b) (number c)
unfolding entry_in field_at
in_three n a b c = refl

has_three : (n : ℕ) (fields : List (List ℕ)) (e : Entry) → entry_in n fields ≡ Ok e → length fields ≡ 3
unfolding entry_in
has_three n fields e h = eqb-true (length fields) 3 (held (length fields == 3) (fault.Record (n + 1)) _ e h).0

small_end : (t : Tick) → IsEnd t → natural t.0 < 10 ^ 64
small_end t h = let most : natural t.0 ≤ 2 ^ 90 = natural_most t.0 (2 ^ 90) h.high in omega arith

is_row : (n : ℕ) (fields : List (List ℕ)) (e : Entry) → n < 10 ^ 64 → entry_in n fields ≡ Ok e → IsRow n fields e
is_row n fields e few h =
    let t = three fields (has_three n fields e h) in
    let s = says n (number t.0) (number t.1) (number t.2) e (sym (in_three n t.0 t.1 t.2) ∙ (rw t.3 at h)) in
    let place : t.0 ≡ decimal n = number_is t.0 n s.is_place few in
    let low : t.1 ≡ digits_of e.lower = number_is t.1 (natural e.lower.0) s.is_low (small_end e.lower s.low_fits) in
    let high : t.2 ≡ digits_of e.upper = number_is t.2 (natural e.upper.0) s.is_high (small_end e.upper s.high_fits) in
    record { is = t.3 ∙ rw (place, low, high) refl; low_fits = s.low_fits; high_fits = s.high_fits }

whole : (z : ℤ) → pos 0 ≤ℤ z → pos (natural z) ≡ z
whole (pos n) h = refl
whole (negsuc n) h = absurd (omega (arith, ints))

abbrev tick_at : ℤ → Tick
tick_at z = record { 0 = z }

tick_back : (t : Tick) → IsEnd t → tick (natural t.0) ≡ t
tick_back t h = ap (λ (z : ℤ). tick_at z) (whole t.0 h.low)

end_is : (t : Tick) → IsEnd t → is_end (natural t.0) ≡ true
end_is t h = le-leb (natural t.0) (2 ^ 90) (natural_most t.0 (2 ^ 90) h.high)

these_back : (e : Entry) (l u : Tick) → l ≡ e.lower → u ≡ e.upper → read (record { lower = l; upper = u }) ≡ Ok e
these_back e l u p q = rw (p, q) refl

digits_say : (t : Tick) → IsEnd t → number (digits_of t) ≡ Some (natural t.0)
digits_say t h = number-decimal (natural t.0) (small_end t h)

row_is : (n : ℕ) (fields : List (List ℕ)) (e : Entry) → n < 10 ^ 64 → IsRow n fields e → entry_in n fields ≡ Ok e
row_is n fields e few r =
    rw (
      r.is,
      in_three n (decimal n) (digits_of e.lower) (digits_of e.upper),
      number-decimal n few,
      digits_say e.lower r.low_fits,
      digits_say e.upper r.high_fits,
      end_is e.lower r.low_fits,
      end_is e.upper r.high_fits,
      eq-eqb n n refl,
    ) (these_back e (tick (natural e.lower.0)) (tick (natural e.upper.0)) (tick_back e.lower r.low_fits) (tick_back e.upper r.high_fits))

-- ---- every record

pub rows_fit : (patches width n : ℕ) (rows : List (List (List ℕ))) (es : List Entry) → patches ≤ 2048 → n + length rows ≡ patches → AreRows width n rows es
    → entries_of patches width n rows ≡ Ok es
unfolding entries_of entry_of AreRows
rows_fit patches width n [] [] few size h = rw (eq-eqb n patches (omega arith)) refl
rows_fit patches width n [] (e ∷ es) few size h = absurd h
rows_fit patches width n (fields ∷ rows) [] few size h = absurd h
rows_fit patches width n (fields ∷ rows) (e ∷ es) few size h =
    rw (lt-ltb n patches (omega arith), eq-eqb (length fields) width h.0, row_is n fields e (omega arith) h.1, rows_fit patches width (n + 1) rows es few (omega arith) h.2) refl

entry_fits : (patches width n : ℕ) (fields : List (List ℕ)) (e : Entry) → patches ≤ 2048 → entry_of patches width n fields ≡ Ok e → (length fields ≡ width) × IsRow n fields e
unfolding entry_of
entry_fits patches width n fields e few h =
    let a = held (nat_lt n patches) fault.Count (demand (length fields == width) (fault.Record (n + 1)) >>= λ even. entry_in n fields) e h in
    let b = held (length fields == width) (fault.Record (n + 1)) (entry_in n fields) e a.1 in
    let l : n < patches = ltb-true n patches a.0 in
    (eqb-true (length fields) width b.0, is_row n fields e (omega arith) b.1)

pub fits_rows : (patches width n : ℕ) (rows : List (List (List ℕ))) (es : List Entry) → patches ≤ 2048 → entries_of patches width n rows ≡ Ok es
    → (n + length rows ≡ patches) × AreRows width n rows es
unfolding entries_of AreRows
fits_rows patches width n [] [] few h =
    let a = held (n == patches) fault.Count (Ok []) [] h in
    let e : n ≡ patches = eqb-true n patches a.0 in
    (omega arith, tt)
fits_rows patches width n [] (e ∷ es) few h = cc (held (n == patches) fault.Count (Ok []) (e ∷ es) h).1
fits_rows patches width n (fields ∷ rows) es few h =
    let a = both_gave (entry_of patches width n fields) (λ entry. entries_of patches width (n + 1) rows >>= λ entries. Ok (entry ∷ entries)) es h in
    let b = both_gave (entries_of patches width (n + 1) rows) (λ entries. Ok (a.0 ∷ entries)) es a.2 in
    let first = entry_fits patches width n fields a.0 few a.1 in
    let more = fits_rows patches width (n + 1) rows b.0 few b.1 in
    let size : (n + 1) + length rows ≡ patches = more.0 in
    let is : a.0 ∷ b.0 ≡ es = cc b.2 in
    (omega arith, rw (sym is) (first.0, first.1, more.1))

-- ---- the whole text

none_are : (width n : ℕ) (es : List Entry) → AreRows width n [] es → es ≡ []
unfolding AreRows
none_are width n [] h = refl
none_are width n (e ∷ es) h = absurd h

same_claim : (x y : Claim) → ok x ≡ Ok y → y ≡ x
same_claim x y h = cc h

from_fits : (patches width : ℕ) (rows : List (List (List ℕ))) (claim : Claim) → patches ≤ 2048 → claim_from patches width rows ≡ Ok claim
    → (es : List Entry) × (length rows ≡ patches) × AreRows width 0 rows es × (claim ≡ claim_with es)
unfolding claim_from
from_fits patches width rows claim few h =
    let a = both_gave (entries_of patches width 0 rows) (λ entries. Ok (claim_with entries)) claim h in
    let f = fits_rows patches width 0 rows a.0 few a.1 in
    let size : 0 + length rows ≡ patches = f.0 in
    (a.0, omega arith, f.1, same_claim (claim_with a.0) claim a.2)

fits_from : (patches width : ℕ) (rows : List (List (List ℕ))) (es : List Entry) → patches ≤ 2048 → length rows ≡ patches → AreRows width 0 rows es
    → claim_from patches width rows ≡ Ok (claim_with es)
unfolding claim_from
fits_from patches width rows es few size h = rw (rows_fit patches width 0 rows es few (omega arith) h) refl

after_fits : (patches : ℕ) (rows : List (List (List ℕ))) (claim : Claim) → patches ≤ 2048 → claim_after patches rows ≡ Ok claim
    → (es : List Entry) × IsClaimText patches rows es × (claim ≡ claim_with es)
unfolding claim_after IsClaimText
after_fits patches [] claim few h =
    let f = from_fits patches 0 [] claim few h in
    let size : 0 ≡ patches = f.1 in
    (f.0, (none_are 0 0 f.0 f.2, sym size), f.3)
after_fits patches (header ∷ rows) claim few h =
    let f = from_fits patches (length header) rows claim few h in
    (f.0, (f.1, f.2), f.3)

pub fits_after : (patches : ℕ) (rows : List (List (List ℕ))) (es : List Entry) → patches ≤ 2048 → IsClaimText patches rows es → claim_after patches rows ≡ Ok (claim_with es)
unfolding claim_after IsClaimText AreRows
fits_after patches [] es few h = rw h.0 (fits_from patches 0 [] [] few (sym h.1) tt)
fits_after patches (header ∷ rows) es few h = fits_from patches (length header) rows es few h.0 h.1

pub claim_is_read : ClaimIsRead
unfolding claim_of
claim_is_read bytes patches claim few = (
  λ h. after_fits patches (records default_config (strip_bom bytes)) claim few h,
  λ f. fits_after patches (records default_config (strip_bom bytes)) f.0 few f.1 ∙ ap (λ (x : Claim). ok x) (sym f.2),
)
