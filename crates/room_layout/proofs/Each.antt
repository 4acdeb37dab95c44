-- Checks of the elements of a list, one after another.
use Rattle.std.proofs.Common.{◌≡◌, ℕ, ◌+◌, ◌<◌, ◌≤◌, List, [], ◌∷◌, ◌++◌, length, get_or, take, drop, map, Result, Ok, Err, refl, ap, sym, append_assoc, append-nil}
use Rattle.std.proofs.Math.ListN.{drop_of_length-le}
use Rattle.std.proofs.lemmas.List.{drop_more, take_all}
use Rattle.room_layout.specs.declared.fault.RoomFault.{RoomFault}
use Rattle.room_layout.specs.Checks.{◌>>=◌, each}

pub each-map : {A B C : Type 0} (check : B → Result C RoomFault) (f : A → B) (xs : List A) → each check (map f xs) ≡ each (λ x. check (f x)) xs
each-map check f [] = refl
each-map check f (x ∷ xs) = ap (λ r. check (f x) >>= λ y. r >>= λ ys. Ok (y ∷ ys)) (each-map check f xs)

-- one value more before what the rest gives
pub joined : {B : Type 0} (before : List B) (y : B) (rest : Result (List B) RoomFault) → ((rest >>= λ ys. Ok (y ∷ ys)) >>= λ ys. Ok (before ++ ys)) ≡ (rest >>= λ ys. Ok ((before ++ y ∷ []) ++ ys))
joined before y (Ok ys) = ap Ok (sym (append_assoc before (y ∷ []) ys))
joined before y (Err e) = refl

-- the next element passes its check
pub each_passes : {A B : Type 0} (check : A → Result B RoomFault) (xs : List A) (i : ℕ) (d : A) (before : List B) (y : B) → i < length xs → check (get_or xs i d) ≡ Ok y
    → (each check (drop i xs) >>= λ ys. Ok (before ++ ys)) ≡ (each check (drop (i + 1) xs) >>= λ ys. Ok ((before ++ y ∷ []) ++ ys))
each_passes check xs i d before y h e = rw (drop_more xs i d h, e) (joined before y (each check (drop (i + 1) xs)))

-- the next element fails its check
pub each_fails : {A B C : Type 0} (check : A → Result B RoomFault) (xs : List A) (i : ℕ) (d : A) (next : List B → Result C RoomFault) (e : RoomFault) → i < length xs → check (get_or xs i d) ≡ Err e
    → (each check (drop i xs) >>= next) ≡ Err e
each_fails check xs i d next e h fails = rw (drop_more xs i d h, fails)

-- all elements have passed theirs
pub each_ends : {A B : Type 0} (check : A → Result B RoomFault) (xs : List A) (i : ℕ) (ys : List B) → length xs ≤ i → length ys ≤ i
    → (each check (drop i xs) >>= λ more. Ok (take i ys ++ more)) ≡ Ok ys
each_ends check xs i ys all whole = rw (drop_of_length-le xs all, take_all i ys whole) (ap Ok (append-nil ys))
