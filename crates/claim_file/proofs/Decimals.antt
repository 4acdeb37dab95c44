-- A number in decimal digits is read as that number, and no other field is.
use Rattle.std.proofs.Common.{ℕ, zero, suc, ◌+◌, ◌/◌, ◌-◌, ◌*◌, ◌%◌, ◌^◌, ◌<◌, ◌≤◌, ◌≡◌, ◌∙◌, refl, sym, ap, append_assoc, arith, inl, inr, length, Bool, None, ◌&&◌, List, [], ◌∷◌, ◌++◌, true, false, Some, ◌==◌}
use Rattle.fx_base.proofs.Truth.{both_true}
use Rattle.std.specs.Prelude.{fold, if◌then◌else◌}
use Rattle.std.proofs.Math.Dec.{leb}
use Rattle.std.specs.Char.{is_ascii_digit}
use Rattle.std.specs.List.{list_all}
use Rattle.std.specs.Fmt.{decimal}
use Rattle.std.proofs.lemmas.Bool.{cases_Bool, eqb-false, eqb-true, leb-true, ne_eqb}
use Rattle.std.proofs.lemmas.Fmt.{decimal_by_steps_wide, decimal_step_wide}
use Rattle.std.proofs.lemmas.List.{append-nil, nil_from_length}
use Rattle.std.proofs.lemmas.Bool.Decides.{nat_tests}
use Rattle.std.proofs.lemmas.List.Folds.{list_all-append}
use Rattle.std.proofs.lemmas.List.Sums.{fold-append}
use Rattle.claim_file.specs.Numbers.{begins_well, number, number_after, with_digit}

-- a field that writes a number, and how it begins
record Writes (n : ℕ) (field : List ℕ) : Type 0 where
  pub digits : list_all is_ascii_digit field ≡ true
  pub value : fold with_digit 0 field ≡ n
  pub first : ℕ
  pub rest : List ℕ
  pub is : field ≡ first ∷ rest
  pub not_zero : 0 < n → (first == 48) ≡ false
  pub alone : n ≡ 0 → rest ≡ []

digit_is : (n : ℕ) → n < 10 → is_ascii_digit (48 + n) ≡ true
digit_is n l = grind (arith, nat_tests)

one : (n : ℕ) → n < 10 → Writes n ((48 + n) ∷ [])
one n l = record {
  digits = rw (digit_is n l) refl;
  value = omega arith;
  first = 48 + n;
  rest = [];
  is = refl;
  not_zero = λ p. ne_eqb (48 + n) 48 (λ e. absurd (omega arith));
  alone = λ e. refl;
}

more : (n : ℕ) (ds : List ℕ) → 10 ≤ n → Writes (n / 10) ds → Writes n (ds ++ ((48 + n % 10) ∷ []))
more n ds l w = record {
  digits = list_all-append is_ascii_digit ds ((48 + n % 10) ∷ []) ∙ rw (w.digits, digit_is (n % 10) (omega arith)) refl;
  value = fold-append with_digit 0 ds ((48 + n % 10) ∷ []) ∙ rw w.value (omega arith);
  first = w.first;
  rest = w.rest ++ ((48 + n % 10) ∷ []);
  is = ap (λ (xs : List ℕ). xs ++ ((48 + n % 10) ∷ [])) w.is;
  not_zero = λ p. w.not_zero (omega arith);
  alone = λ e. absurd (omega arith);
}

writes : (n : ℕ) → n < 10 ^ 64 → Writes n (decimal n)
writes = decimal_by_steps_wide Writes one more

begins : (n first : ℕ) (rest : List ℕ) → (0 < n → (first == 48) ≡ false) → (n ≡ 0 → rest ≡ []) → begins_well (first ∷ rest) ≡ true
begins zero first rest p q = rw (q refl) (grind arith)
begins (suc n) first rest p q = rw (p (omega arith)) refl

is_number : (n : ℕ) (field : List ℕ) → Writes n field → number field ≡ Some n
unfolding number number_after
is_number n field w =
    let well : begins_well field ≡ true = rw w.is (begins n w.first w.rest w.not_zero w.alone) in
    rw (well, w.digits) (ap (λ (k : ℕ). Some k) w.value)

pub number-decimal : (n : ℕ) → n < 10 ^ 64 → number (decimal n) ≡ Some n
number-decimal n l = is_number n (decimal n) (writes n l)

-- ---- and no other field is

range : (b : ℕ) → is_ascii_digit b ≡ true → (48 ≤ b) × (b ≤ 57)
range b e = let h = both_true (leb 48 b) (leb b 57) e in (leb-true 48 b h.0, leb-true b 57 h.1)

one_digit : (n : ℕ) → n < 10 → decimal n ≡ (48 + n) ∷ []
one_digit n l = decimal_by_steps_wide (λ m ds. m < 10 → ds ≡ (48 + m) ∷ []) (λ m q p. refl) (λ m ds ten w p. absurd (omega arith)) n (omega arith) l

next_digit : (n b : ℕ) → 0 < n → 48 ≤ b → b ≤ 57 → with_digit n b < 10 ^ 64 → decimal (with_digit n b) ≡ decimal n ++ (b ∷ [])
next_digit n b p low high small =
    let quotient : with_digit n b / 10 ≡ n = omega arith in
    let rest : 48 + with_digit n b % 10 ≡ b = omega arith in
    decimal_step_wide (with_digit n b) (omega arith) small ∙ rw (quotient, rest) refl

no_less : (bytes : List ℕ) (n : ℕ) → n ≤ fold with_digit n bytes
no_less [] n = omega arith
no_less (b ∷ bytes) n = let more : 10 * n + (b - 48) ≤ fold with_digit (with_digit n b) bytes = no_less bytes (with_digit n b) in omega arith

-- digits behind those of a number that isn't 0
follows : (bytes : List ℕ) (n : ℕ) → 0 < n → list_all is_ascii_digit bytes ≡ true → fold with_digit n bytes < 10 ^ 64
    → decimal n ++ bytes ≡ decimal (fold with_digit n bytes)
follows [] n p all small = append-nil (decimal n)
follows (b ∷ bytes) n p all small =
    let each = both_true (is_ascii_digit b) (list_all is_ascii_digit bytes) all in
    let r = range b each.0 in
    let less : with_digit n b ≤ fold with_digit (with_digit n b) bytes = no_less bytes (with_digit n b) in
    let step : decimal (with_digit n b) ≡ decimal n ++ (b ∷ []) = next_digit n b p r.0 r.1 (omega arith) in
    sym (append_assoc (decimal n) (b ∷ []) bytes) ∙ ap (λ (t : List ℕ). t ++ bytes) (sym step) ∙ follows bytes (with_digit n b) (omega arith) each.1 small

zero_field : (b : ℕ) (bytes : List ℕ) (v : ℕ) → b ≡ 48 → bytes ≡ [] → fold with_digit 0 (b ∷ bytes) ≡ v → b ∷ bytes ≡ decimal v
zero_field b bytes v e none is =
    let value : v ≡ 0 = sym is ∙ rw (e, none) refl in
    rw (e, none, value) (sym (one_digit 0 (omega arith)))

other_field : (b : ℕ) (bytes : List ℕ) (v : ℕ) → (b == 48) ≡ false → list_all is_ascii_digit (b ∷ bytes) ≡ true → fold with_digit 0 (b ∷ bytes) ≡ v
    → v < 10 ^ 64 → b ∷ bytes ≡ decimal v
other_field b bytes v e all is small =
    let each = both_true (is_ascii_digit b) (list_all is_ascii_digit bytes) all in
    let r = range b each.0 in
    let not : b ≡ 48 → ⊥ = eqb-false b 48 e in
    let some : 0 < with_digit 0 b = omega arith in
    let same : 48 + with_digit 0 b ≡ b = omega arith in
    let first : decimal (with_digit 0 b) ≡ b ∷ [] = one_digit (with_digit 0 b) (omega arith) ∙ ap (λ (k : ℕ). k ∷ []) same in
    ap (λ (t : List ℕ). t ++ bytes) (sym first) ∙ follows bytes (with_digit 0 b) some each.1 (rw is small) ∙ ap (λ (k : ℕ). decimal k) is

field_is : (field : List ℕ) (v : ℕ) → begins_well field ≡ true → list_all is_ascii_digit field ≡ true → fold with_digit 0 field ≡ v → v < 10 ^ 64 → field ≡ decimal v
field_is [] v well all is small = cc well
field_is (b ∷ bytes) v well all is small = elim (cases_Bool (b == 48)) [
  | inl same ↦ zero_field b bytes v (eqb-true b 48 same) (nil_from_length bytes (eqb-true (length bytes) 0 (rw same at well))) is
  | inr other ↦ other_field b bytes v other all is small
]

chosen : (a b : Bool) (x v : ℕ) → (if a then (if b then Some x else None) else None) ≡ Some v → (a ≡ true) × (b ≡ true) × (x ≡ v)
chosen true true x v h = (refl, refl, cc h)
chosen true false x v h = cc h
chosen false b x v h = cc h

pub number_is : (field : List ℕ) (v : ℕ) → number field ≡ Some v → v < 10 ^ 64 → field ≡ decimal v
unfolding number number_after
number_is field v h small =
    let c = chosen (begins_well field) (list_all is_ascii_digit field) (fold with_digit 0 field) v h in
    field_is field v c.0 c.1 c.2 small
