-- What one line says.
use Rattle.std.proofs.Common.{ℕ, ◌+◌, ◌-◌, ◌*◌, ◌/◌, ◌%◌, ◌≤◌, ◌≡◌, Bool, true, false, cond, ◌&&◌, nat_le, List, [], length, slice_index_or, ℤ, pos, negsuc, Ok, Err, Result, refl, ap, sym, ◌∙◌, arith}
use Rattle.std.proofs.lemmas.Bool.Decides.{nat_tests}
use Rattle.decimal_text.specs.Numbers.{number}
use Rattle.decimal_text.specs.declared.number.Mark.TheVariants.{PointOrComma}
use Rattle.decimal_text.specs.declared.number.NumberFault.{NumberFault}
use Rattle.decimal_text.specs.declared.number.NumberFault.TheVariants.{NotNumber, TooLarge}
use Rattle.eulumdat_read.specs.declared.fault.LdtFault.TheVariants as fault
use Rattle.eulumdat_read.specs.Grammar.{Counts, IsIntensity, Says, SaysIn}
use Rattle.decimal_text.specs.Steps.{counted}
use Rattle.eulumdat_read.specs.Items.{count_at, line_at, lit, measured_at, number_at, or_fault, ranged, value_at}
use Rattle.eulumdat_read.specs.Lines.{trimmed}
use Rattle.decimal_text.proofs.Steps.{both_gave, count_is}

-- ---- a number

line_of : (lines : List (List ℕ)) (k : ℕ) (x : List ℕ) → line_at lines k ≡ Ok x → (k ≤ length lines) × (slice_index_or lines (k - 1) [] ≡ x)
unfolding line_at
line_of lines k x h = at (nat_le k (length lines)) refl h
  where
    at : (b : Bool) → nat_le k (length lines) ≡ b → cond b (Ok (slice_index_or lines (k - 1) [])) (Err (fault.Short (length lines + 1))) ≡ Ok x
        → (k ≤ length lines) × (slice_index_or lines (k - 1) [] ≡ x)
    at true e h = (grind (arith, nat_tests), cc)
    at false e h = absurd (cc)

there_line : (lines : List (List ℕ)) (k : ℕ) → k ≤ length lines → line_at lines k ≡ Ok (slice_index_or lines (k - 1) [])
unfolding line_at
there_line lines k h = grind (arith, nat_tests)

number_of : (k : ℕ) (r : Result ℤ NumberFault) (z : ℤ) → or_fault k r ≡ Ok z → r ≡ Ok z
number_of k (Ok x) z h = cc
number_of k (Err NotNumber) z h = absurd (cc)
number_of k (Err TooLarge) z h = absurd (cc)

pub says_of : (lines : List (List ℕ)) (k : ℕ) (z : ℤ) → number_at lines k ≡ Ok z → Says lines k z
unfolding number_at
says_of lines k z h =
    let s = both_gave (line_at lines k) (λ line. or_fault k (number PointOrComma (trimmed line))) z h in
    let i = line_of lines k s.0 s.1 in
    record { there = i.0; is = ap (λ x. number PointOrComma (trimmed x)) i.1 ∙ number_of k (number PointOrComma (trimmed s.0)) z s.2 }

pub of_says : (lines : List (List ℕ)) (k : ℕ) (z : ℤ) → Says lines k z → number_at lines k ≡ Ok z
unfolding number_at
of_says lines k z h = rw (there_line lines k h.there, h.is) refl

-- a line says one number
pub says_one : (lines : List (List ℕ)) (k low high low' high' n m : ℕ) → SaysIn lines k low high n → SaysIn lines k low' high' m → n ≡ m
says_one lines k low high low' high' n m h g = let e = sym h.says.is ∙ g.says.is in cc

-- ---- a number in a range

range_of : (k low high : ℕ) (z : ℤ) (n : ℕ) → ranged k low high z ≡ Ok n → (z ≡ pos n) × (low ≤ n) × (n ≤ high)
range_of k low high (negsuc m) n h = absurd (cc)
range_of k low high (pos m) n h = at (nat_le low m && nat_le m high) refl h
  where
    at : (b : Bool) → (nat_le low m && nat_le m high) ≡ b → cond b (Ok m) (Err (fault.Range k)) ≡ Ok n → (pos m ≡ pos n) × (low ≤ n) × (n ≤ high)
    at true e h = let i : m ≡ n = cc in (ap pos i, grind (arith, nat_tests), grind (arith, nat_tests))
    at false e h = absurd (cc)

pub in_of : (lines : List (List ℕ)) (k low high n : ℕ) → measured_at lines k low high ≡ Ok n → SaysIn lines k low high n
unfolding measured_at
in_of lines k low high n h =
    let s = both_gave (number_at lines k) (ranged k low high) n h in
    let r = range_of k low high s.0 n s.2 in
    record { says = says_of lines k (pos n) (s.1 ∙ ap Ok r.0); least = r.1; most = r.2 }

pub of_in : (lines : List (List ℕ)) (k low high n : ℕ) → SaysIn lines k low high n → measured_at lines k low high ≡ Ok n
unfolding measured_at
of_in lines k low high n h =
    let a = h.least in
    let b = h.most in
    rw (of_says lines k (pos n) h.says) (grind (arith, nat_tests))

-- ---- a whole number

pub count_of : (lines : List (List ℕ)) (k low high n : ℕ) → count_at lines k low high ≡ Ok n → Counts lines k low high n
unfolding count_at
count_of lines k low high n h =
    let s = both_gave (measured_at lines k (low * 1000000) (high * 1000000)) (counted (fault.Range k)) n h in
    in_of lines k (low * 1000000) (high * 1000000) (n * 1000000) (s.1 ∙ ap Ok (count_is (fault.Range k) s.0 n s.2))

pub of_count : (lines : List (List ℕ)) (k low high n : ℕ) → Counts lines k low high n → count_at lines k low high ≡ Ok n
unfolding count_at
of_count lines k low high n h =
    let a : n * 1000000 % 1000000 ≡ 0 = omega arith in
    let b : n * 1000000 / 1000000 ≡ n = omega arith in
    rw (of_in lines k (low * 1000000) (high * 1000000) (n * 1000000) h) (rw (a, b) refl)

-- ---- an intensity

product_is : (k factor : ℕ) (z : ℤ) (v : ℕ) → lit k factor z ≡ Ok v → (m : ℕ) × (z ≡ pos m) × (v ≡ m * factor) × (v ≤ 10000000000000000000000000000)
product_is k factor (negsuc m) v h = absurd (cc)
product_is k factor (pos m) v h = at (nat_le (m * factor) 10000000000000000000000000000) refl h
  where
    at : (b : Bool) → nat_le (m * factor) 10000000000000000000000000000 ≡ b → cond b (Ok (m * factor)) (Err (fault.Intensity k)) ≡ Ok v
        → (n : ℕ) × (pos m ≡ pos n) × (v ≡ n * factor) × (v ≤ 10000000000000000000000000000)
    at true e h = let i : m * factor ≡ v = cc in (m, refl, sym i, grind (arith, nat_tests))
    at false e h = absurd (cc)

pub intensity_of : (lines : List (List ℕ)) (k factor v : ℕ) → value_at lines k factor ≡ Ok v → IsIntensity lines k factor v
unfolding value_at
intensity_of lines k factor v h =
    let s = both_gave (number_at lines k) (lit k factor) v h in
    let p = product_is k factor s.0 v s.2 in
    record { value = p.0; says = says_of lines k (pos p.0) (s.1 ∙ ap Ok p.1); product = p.2; most = p.3 }

pub of_intensity : (lines : List (List ℕ)) (k factor v : ℕ) → IsIntensity lines k factor v → value_at lines k factor ≡ Ok v
unfolding value_at
of_intensity lines k factor v h =
    let p = h.product in
    let m = h.most in
    let t : nat_le (h.value * factor) 10000000000000000000000000000 ≡ true = grind (arith, nat_tests) in
    rw (of_says lines k (pos h.value) h.says, t) (ap Ok (sym p))
