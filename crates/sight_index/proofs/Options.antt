-- What holds of the box at a place of a list, if there is one.
use Rattle.std.proofs.Common.{ℕ, ◌≡◌, ◌<◌, List, length, refl, sym, subst}
use Rattle.std.specs.Prelude.{All, Option, Some, None, slice_get, IfSome, IsSomeAnd}
use Rattle.std.proofs.lemmas.Option.{slice_get_within, get_or_from_slice_get}

pub weaken : {T : Type 0} (o : Option T) (R P Q : T → Type 0) → IfSome o R → ((x : T) → R x → P x → Q x) → IsSomeAnd o P → IsSomeAnd o Q
weaken None R P Q r f h = h
weaken (Some x) R P Q r f h = f x r h

pub is_some_of : {T : Type 0} (o : Option T) (P : T → Type 0) → IsSomeAnd o P → (x : T) × (o ≡ Some x) × P x
is_some_of None P h = absurd h
is_some_of (Some x) P h = (x, refl, h)

if_some : {T : Type 0} (o : Option T) (P : T → Type 0) → ((x : T) → o ≡ Some x → P x) → IfSome o P
if_some None P f = tt
if_some (Some x) P f = f x refl

pub of_some : {T : Type 0} (o : Option T) (x : T) (P : T → Type 0) → o ≡ Some x → P x → IsSomeAnd o P
of_some o x P e h = subst (λ v. IsSomeAnd v P) (sym e) h

-- a box for which P holds is one of the list
pub within_list : {T : Type 0} (xs : List T) (b : ℕ) (P : T → Type 0) → IsSomeAnd (slice_get xs b) P → b < length xs
within_list xs b P h = let x = is_some_of (slice_get xs b) P h in slice_get_within xs b x.0 x.1

-- what holds of all holds of the one at b
pub some_of_all : {T : Type 0} (xs : List T) (b : ℕ) (P : T → Type 0) → All P xs → IfSome (slice_get xs b) P
some_of_all xs b P all = if_some (slice_get xs b) P (λ x e.
    let h = all b x (slice_get_within xs b x e) in
    subst P (get_or_from_slice_get xs b x x e) h)
