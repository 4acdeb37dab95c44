-- What one item says.
use Rattle.std.proofs.Common.{ℕ, ◌+◌, ◌-◌, ◌*◌, ◌/◌, ◌%◌, ◌≤◌, ◌≡◌, Bool, true, false, cond, ◌&&◌, ◌||◌, nat_le, List, [], length, slice_index_or, ℤ, pos, negsuc, Ok, Err, Result, refl, ap, sym, subst, ◌∙◌, arith}
use Rattle.std.specs.Ordering.{int_eq}
use Rattle.std.proofs.lemmas.Bool.Decides.{nat_tests, Decides-int_eq}
use Rattle.decimal_text.specs.Numbers.{number}
use Rattle.decimal_text.specs.declared.number.Mark.TheVariants.{Point}
use Rattle.decimal_text.specs.declared.number.NumberFault.{NumberFault}
use Rattle.decimal_text.specs.declared.number.NumberFault.TheVariants.{NotNumber, TooLarge}
use Rattle.lm63_read.specs.declared.fault.IesFault.TheVariants as fault
use Rattle.lm63_read.specs.declared.head.Header.{Header}
use Rattle.lm63_read.specs.declared.head.Header.TheVariants.{Of1991, Of1995, Of2002}
use Rattle.decimal_text.specs.Steps.{counted}
use Rattle.lm63_read.specs.Reads.{item_at, numbered, number_at, natural_of, ranged, measured_at, count_at, typed, type_at}
use Rattle.lm63_read.specs.Values.{lit, value_at}
use Rattle.lm63_read.specs.Sizes.{shift_of, further_at}
use Rattle.lm63_read.specs.Grammar.{Says, SaysIn, IsShift, IsFurther, IsProduct, none, included}
use Rattle.decimal_text.proofs.Steps.{both_gave, ok_of, count_is}

-- ---- a number

item_of : (items : List (List ℕ)) (k : ℕ) (x : List ℕ) → item_at items k ≡ Ok x → (k ≤ length items) × (slice_index_or items (k - 1) [] ≡ x)
unfolding item_at
item_of items k x h = at (nat_le k (length items)) refl h
  where
    at : (b : Bool) → nat_le k (length items) ≡ b → cond b (Ok (slice_index_or items (k - 1) [])) (Err (fault.Short (length items + 1))) ≡ Ok x
        → (k ≤ length items) × (slice_index_or items (k - 1) [] ≡ x)
    at true e h = (grind (arith, nat_tests), cc)
    at false e h = absurd (cc)

there_item : (items : List (List ℕ)) (k : ℕ) → k ≤ length items → item_at items k ≡ Ok (slice_index_or items (k - 1) [])
unfolding item_at
there_item items k h = grind (arith, nat_tests)

number_of : (k : ℕ) (r : Result ℤ NumberFault) (z : ℤ) → numbered k r ≡ Ok z → r ≡ Ok z
number_of k (Ok x) z h = cc
number_of k (Err NotNumber) z h = absurd (cc)
number_of k (Err TooLarge) z h = absurd (cc)

pub says_of : (items : List (List ℕ)) (k : ℕ) (z : ℤ) → number_at items k ≡ Ok z → Says items k z
unfolding number_at
says_of items k z h =
    let s = both_gave (item_at items k) (λ item. numbered k (number Point item)) z h in
    let i = item_of items k s.0 s.1 in
    record { there = i.0; is = ap (number Point) i.1 ∙ number_of k (number Point s.0) z s.2 }

pub of_says : (items : List (List ℕ)) (k : ℕ) (z : ℤ) → Says items k z → number_at items k ≡ Ok z
unfolding number_at
of_says items k z h = rw (there_item items k h.there, h.is) refl

-- ---- a number in a range

range_of : (k low high : ℕ) (z : ℤ) (n : ℕ) → ranged k low high (natural_of z) ≡ Ok n → (z ≡ pos n) × (low ≤ n) × (n ≤ high)
range_of k low high (negsuc m) n h = absurd (cc)
range_of k low high (pos m) n h = at (nat_le low m && nat_le m high) refl h
  where
    at : (b : Bool) → (nat_le low m && nat_le m high) ≡ b → cond b (Ok m) (Err (fault.Range k)) ≡ Ok n → (pos m ≡ pos n) × (low ≤ n) × (n ≤ high)
    at true e h = let i : m ≡ n = cc in (ap pos i, grind (arith, nat_tests), grind (arith, nat_tests))
    at false e h = absurd (cc)

pub in_of : (items : List (List ℕ)) (k low high n : ℕ) → measured_at items k low high ≡ Ok n → SaysIn items k low high n
unfolding measured_at
in_of items k low high n h =
    let s = both_gave (number_at items k) (λ z. ranged k low high (natural_of z)) n h in
    let r = range_of k low high s.0 n s.2 in
    record { says = says_of items k (pos n) (s.1 ∙ ap Ok r.0); least = r.1; most = r.2 }

pub of_in : (items : List (List ℕ)) (k low high n : ℕ) → SaysIn items k low high n → measured_at items k low high ≡ Ok n
unfolding measured_at
of_in items k low high n h =
    let a = h.least in
    let b = h.most in
    rw (of_says items k (pos n) h.says) (grind (arith, nat_tests))

-- ---- a whole number

pub count_of : (items : List (List ℕ)) (k low high n : ℕ) → count_at items k low high ≡ Ok n → SaysIn items k (low * 1000000) (high * 1000000) (n * 1000000)
unfolding count_at
count_of items k low high n h =
    let s = both_gave (measured_at items k (low * 1000000) (high * 1000000)) (counted (fault.Range k)) n h in
    in_of items k (low * 1000000) (high * 1000000) (n * 1000000) (s.1 ∙ ap Ok (count_is (fault.Range k) s.0 n s.2))

pub of_count : (items : List (List ℕ)) (k low high n : ℕ) → SaysIn items k (low * 1000000) (high * 1000000) (n * 1000000) → count_at items k low high ≡ Ok n
unfolding count_at
of_count items k low high n h =
    let a : n * 1000000 % 1000000 ≡ 0 = omega arith in
    let b : n * 1000000 / 1000000 ≡ n = omega arith in
    rw (of_in items k (low * 1000000) (high * 1000000) (n * 1000000) h) (rw (a, b) refl)

-- ---- the type of the photometry

type_is : (k : ℕ) (z : ℤ) (u : Unit {0}) → typed k z ≡ Ok u → z ≡ pos 1000000
type_is k z u h = at (int_eq z (pos 1000000)) refl (int_eq z (pos 2000000) || int_eq z (pos 3000000)) h
  where
    at : (b : Bool) → int_eq z (pos 1000000) ≡ b → (c : Bool) → cond b (Ok tt) (cond c (Err fault.PhotometricType) (Err (fault.Range k))) ≡ Ok u → z ≡ pos 1000000
    at true e c h = (Decides-int_eq z (pos 1000000)).0 e
    at false e true h = absurd (cc)
    at false e false h = absurd (cc)

pub type_of : (items : List (List ℕ)) (k : ℕ) (u : Unit {0}) → type_at items k ≡ Ok u → Says items k (pos 1000000)
unfolding type_at
type_of items k u h =
    let s = both_gave (number_at items k) (typed k) u h in
    says_of items k (pos 1000000) (s.1 ∙ ap Ok (type_is k s.0 u s.2))

pub of_type : (items : List (List ℕ)) (k : ℕ) → Says items k (pos 1000000) → type_at items k ≡ Ok tt
unfolding type_at
of_type items k h = rw (of_says items k (pos 1000000) h) refl

-- ---- the tilt's items, and the further factor

pub is_shift : (items : List (List ℕ)) (tilted : Bool) (n : ℕ) → shift_of items tilted ≡ Ok n → IsShift items tilted n
unfolding shift_of
is_shift items false n h = let P : ℕ → Type 0 = λ m. IsShift items false m in subst P (ok_of 0 n h) none
is_shift items true n h =
    let s = both_gave (count_at items 2 0 1000) (λ m. Ok (2 + 2 * m)) n h in
    let P : ℕ → Type 0 = λ m. IsShift items true m in
    subst P (ok_of (2 + 2 * s.0) n s.2) (included s.0 (count_of items 2 0 1000 s.0 s.1))

pub of_shift : (items : List (List ℕ)) (tilted : Bool) (n : ℕ) → IsShift items tilted n → shift_of items tilted ≡ Ok n
unfolding shift_of
of_shift items _ _ none = refl
of_shift items _ _ (included m h) = rw (of_count items 2 0 1000 m h) refl

pub is_further : (header : Header) (items : List (List ℕ)) (k n : ℕ) → further_at header items k ≡ Ok n → IsFurther header items k n
is_further Of1991 items k n h = in_of items k 0 2000000 n h
is_further Of1995 items k n h = cc
is_further Of2002 items k n h = cc

pub of_further : (header : Header) (items : List (List ℕ)) (k n : ℕ) → IsFurther header items k n → further_at header items k ≡ Ok n
of_further Of1991 items k n h = of_in items k 0 2000000 n h
of_further Of1995 items k n h = ap Ok (sym h)
of_further Of2002 items k n h = ap Ok (sym h)

-- ---- an intensity

product_is : (k factor : ℕ) (z : ℤ) (v : ℕ) → lit k factor (natural_of z) ≡ Ok v → (m : ℕ) × (z ≡ pos m) × (v ≡ m * factor) × (v ≤ 10000000000000000000000000000000)
product_is k factor (negsuc m) v h = absurd (cc)
product_is k factor (pos m) v h = at (nat_le (m * factor) 10000000000000000000000000000000) refl h
  where
    at : (b : Bool) → nat_le (m * factor) 10000000000000000000000000000000 ≡ b → cond b (Ok (m * factor)) (Err (fault.Intensity k)) ≡ Ok v
        → (n : ℕ) × (pos m ≡ pos n) × (v ≡ n * factor) × (v ≤ 10000000000000000000000000000000)
    at true e h = let i : m * factor ≡ v = cc in (m, refl, sym i, grind (arith, nat_tests))
    at false e h = absurd (cc)

pub product_of : (items : List (List ℕ)) (k factor v : ℕ) → value_at items k factor ≡ Ok v → IsProduct items k factor v
unfolding value_at
product_of items k factor v h =
    let s = both_gave (number_at items k) (λ z. lit k factor (natural_of z)) v h in
    let p = product_is k factor s.0 v s.2 in
    record { value = p.0; says = says_of items k (pos p.0) (s.1 ∙ ap Ok p.1); product = p.2; most = p.3 }

pub of_product : (items : List (List ℕ)) (k factor v : ℕ) → IsProduct items k factor v → value_at items k factor ≡ Ok v
unfolding value_at
of_product items k factor v h =
    let p = h.product in
    let m = h.most in
    let t : nat_le (h.value * factor) 10000000000000000000000000000000 ≡ true = grind (arith, nat_tests) in
    rw (of_says items k (pos h.value) h.says, t) (ap Ok (sym p))
