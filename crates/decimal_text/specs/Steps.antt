-- Steps of reading, the first of which that fails is the answer.
use Rattle.std.specs.Prelude.{ℕ, ◌/◌, ◌%◌, ◌==◌, Bool, if◌then◌else◌, Result, Ok, Err}

infixl 10 ◌>>=◌
abbrev pub ◌>>=◌ : {A B E : Type 0} → Result A E → (A → Result B E) → Result B E
(Ok x) >>= f = f x
(Err e) >>= f = Err e

-- it is so, or the fault
abbrev pub demand : {E : Type 0} → Bool → E → Result (Unit {0}) E
demand holds e = if holds then Ok tt else Err e

-- a number in millionths as a whole one, or the fault
abbrev pub counted : {E : Type 0} → E → ℕ → Result ℕ E
counted e n = if n % 1000000 == 0 then Ok (n / 1000000) else Err e
