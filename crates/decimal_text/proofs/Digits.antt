-- Digits, and what they are worth.
use Rattle.std.proofs.Common.{ℕ, zero, suc, ◌+◌, ◌-◌, ◌*◌, ◌^◌, ◌<◌, ◌≤◌, ◌≡◌, Bool, true, false, ◌&&◌, List, [], ◌∷◌, ◌++◌, length, take, drop, get_or, refl, sym, ap, arith, length-append, ◌∙◌}
use Rattle.std.specs.List.{list_all, prefix_len}
use Rattle.std.proofs.lemmas.Bool.Decides.{nat_tests}
use Rattle.std.proofs.lemmas.List.{take_more}
use Rattle.std.proofs.lemmas.Nat.{pow-add}
use Rattle.std.proofs.Math.Nat.{mul-lt-mul_of_pos_right, one-le-pow}
use Rattle.fx_base.proofs.Truth.{both_of}
use Rattle.decimal_text.specs.Numbers.{is_digit, is_zero, AreDigits, worth, without_zeros}

head_of : (b c : Bool) → (b && c) ≡ true → b ≡ true
head_of true c h = refl
head_of false c h = h

rest_of : (b c : Bool) → (b && c) ≡ true → c ≡ true
rest_of true c h = h
rest_of false c h = cc

-- of a list that passes a test, what is left behind some of it passes too
pub all_behind : (p : ℕ → Bool) (n : ℕ) (xs : List ℕ) → list_all p xs ≡ true → list_all p (drop n xs) ≡ true
all_behind p zero xs h = h
all_behind p (suc n) [] h = refl
all_behind p (suc n) (x ∷ xs) h = all_behind p n xs (rest_of (p x) (list_all p xs) h)

pub all_before : (p : ℕ → Bool) (n : ℕ) (xs : List ℕ) → list_all p xs ≡ true → list_all p (take n xs) ≡ true
all_before p zero xs h = refl
all_before p (suc n) [] h = refl
all_before p (suc n) (x ∷ xs) h =
    both_of (p x) (list_all p (take n xs)) (head_of (p x) (list_all p xs) h) (all_before p n xs (rest_of (p x) (list_all p xs) h))

pub all_in_front : (p : ℕ → Bool) (xs : List ℕ) → list_all p (take (prefix_len p xs) xs) ≡ true
all_in_front p [] = refl
all_in_front p (x ∷ xs) = at (p x) refl (all_in_front p xs)
  where
    at : (b : Bool) → p x ≡ b → list_all p (take (prefix_len p xs) xs) ≡ true → list_all p (take (prefix_len p (x ∷ xs)) (x ∷ xs)) ≡ true
    at true e h = let s : 1 + prefix_len p xs ≡ suc (prefix_len p xs) = omega arith in rw (e, s) (both_of (p x) (list_all p (take (prefix_len p xs) xs)) e h)
    at false e h = rw e refl

-- digits after others are worth what they are, and move those by as many places
worth-append : (xs ys : List ℕ) → worth (xs ++ ys) ≡ worth xs * 10 ^ length ys + worth ys
worth-append [] ys = omega arith
worth-append (x ∷ xs) ys =
    let p : 10 ^ (length xs + length ys) ≡ 10 ^ length xs * 10 ^ length ys = pow-add 10 (length xs) (length ys) in
    let h : worth (xs ++ ys) ≡ worth xs * 10 ^ length ys + worth ys = worth-append xs ys in
    rw (length-append xs ys, p, h) (omega arith)

-- one more digit
pub worth_more : (xs : List ℕ) (i : ℕ) → i < length xs → worth (take (i + 1) xs) ≡ 10 * worth (take i xs) + (get_or xs i 0 - 48)
worth_more xs i h = rw (take_more xs i 0 h, worth-append (take i xs) (get_or xs i 0 ∷ [])) (omega arith)

-- it is below 10
pub digit_at : (xs : List ℕ) (i : ℕ) → AreDigits xs → i < length xs → (48 ≤ get_or xs i 0) × (get_or xs i 0 ≤ 57)
digit_at [] i h l = absurd (omega arith)
digit_at (x ∷ xs) zero h l = let d = head_of (is_digit x) (list_all is_digit xs) h in grind (arith, nat_tests)
digit_at (x ∷ xs) (suc i) h l = digit_at xs i (rest_of (is_digit x) (list_all is_digit xs) h) (omega arith)

-- zeros at the front are worth nothing
pub zeros_worth_nothing : (xs : List ℕ) → worth (without_zeros xs) ≡ worth xs
zeros_worth_nothing [] = refl
zeros_worth_nothing (x ∷ xs) = at (is_zero x) refl (zeros_worth_nothing xs)
  where
    at : (b : Bool) → is_zero x ≡ b → worth (without_zeros xs) ≡ worth xs → worth (without_zeros (x ∷ xs)) ≡ worth (x ∷ xs)
    at true e h =
        let is : x ≡ 48 = grind (arith, nat_tests) in
        let s : 1 + prefix_len is_zero xs ≡ suc (prefix_len is_zero xs) = omega arith in
        rw (e, s, h, is) (omega arith)
    at false e h = rw e refl

-- n decimals of at most six are worth less than a million millionths
pub below_a_million : (v n : ℕ) → n ≤ 6 → v < 10 ^ n → v * 10 ^ (6 - n) < 1000000
below_a_million v n h g =
    let e : n + (6 - n) ≡ 6 = omega arith in
    let p : 10 ^ n * 10 ^ (6 - n) ≡ 10 ^ 6 = sym (pow-add 10 n (6 - n)) ∙ ap (λ k. 10 ^ k) e in
    omega (arith, p, mul-lt-mul_of_pos_right g (one-le-pow (6 - n) 10 (omega arith)))

-- a digit more makes at most ten times as much
pub one_more : (v d i : ℕ) → v < 10 ^ i → d ≤ 9 → 10 * v + d < 10 ^ (i + 1)
one_more v d i h g = rw (pow-add 10 i 1) (omega arith)
