-- What steps of reading that gave something say of each of them.
use Rattle.std.proofs.Common.{ℕ, ◌*◌, ◌%◌, ◌/◌, ◌==◌, ◌≡◌, Bool, true, false, cond, Ok, Err, Result, refl, arith}
use Rattle.std.proofs.lemmas.Bool.Decides.{nat_tests}
use Rattle.decimal_text.specs.Steps.{◌>>=◌, demand, counted}

-- two steps gave y: the first gave some x, and the second y of it
pub both_gave : {A B E : Type 0} (r : Result A E) (f : A → Result B E) (y : B) → (r >>= f) ≡ Ok y → (x : A) × (r ≡ Ok x) × (f x ≡ Ok y)
both_gave (Ok x) f y h = (x, refl, h)
both_gave (Err e) f y h = absurd (cc)

pub gives_both : {A B E : Type 0} (r : Result A E) (f : A → Result B E) (x : A) (y : B) → r ≡ Ok x → f x ≡ Ok y → (r >>= f) ≡ Ok y
gives_both r f x y h g = rw h g

pub held : {E : Type 0} (b : Bool) (e : E) (u : Unit {0}) → demand b e ≡ Ok u → b ≡ true
held true e u h = refl
held false e u h = absurd (cc)

pub ok_of : {A E : Type 0} (x y : A) → (let r : Result A E = Ok x in r) ≡ Ok y → x ≡ y
ok_of x y h = cc

-- what is counted is a whole number of millions
pub count_is : {E : Type 0} (e : E) (m n : ℕ) → counted e m ≡ Ok n → m ≡ n * 1000000
count_is {E} e m n h = at (m % 1000000 == 0) refl h
  where
    at : (b : Bool) → (m % 1000000 == 0) ≡ b → cond b (Ok (m / 1000000)) (Err e) ≡ Ok n → m ≡ n * 1000000
    at true g h = let i : m / 1000000 ≡ n = cc in let j : m % 1000000 ≡ 0 = grind (arith, nat_tests) in omega arith
    at false g h = absurd (cc)
