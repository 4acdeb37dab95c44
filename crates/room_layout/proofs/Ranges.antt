-- What a check that gives a value says of it.
use Rattle.std.proofs.Common.{◌≡◌, ℕ, ℤ, pos, negsuc, ◌<◌, ◌==◌, ◌&&◌, zero, suc, Bool, true, false, nat_le, cond, if◌then◌else◌, List, [], ◌∷◌, length, get_or, Option, Some, None, Result, Ok, Err, refl, ap, subst, ◌∙◌, lit≤, arith}
use Rattle.std.specs.List.{list_all}
use Rattle.std.proofs.lemmas.Bool.{and_parts}
use Rattle.std.proofs.lemmas.Bool.Decides.{nat_tests}
use Rattle.toml.specs.Data.{Data, Members, as_integer, as_table}
use Rattle.room_layout.specs.declared.fault.RoomFault.{RoomFault}
use Rattle.room_layout.specs.declared.fault.RoomFault.TheVariants as fault
use Rattle.room_layout.specs.declared.fault.Spot.{Spot}
use Rattle.room_layout.specs.Checks.{◌>>=◌, demand, each, required, optional, kind, in_range, ranged, number, is_integer, array, all_numbers, numbers, has_only, table_with}
use Rattle.room_layout.specs.Accepted.{IsBetween}

-- the first of two checks gave a value, and the second gave the answer from it
pub bind_ok : {A B : Type 0} (r : Result A RoomFault) (next : A → Result B RoomFault) (y : B) → (r >>= next) ≡ Ok y → (x : A) × (r ≡ Ok x) × (next x ≡ Ok y)
bind_ok (Ok x) next y e = (x, refl, e)
bind_ok (Err f) next y e = absurd (cc)

-- two values that a check gives at once are one
pub ok_same : {A : Type 0} (x y : A) → ◌≡◌ {A = Result A RoomFault} (Ok x) (Ok y) → x ≡ y
ok_same x y e = cc

pub some_same : {A : Type 0} (x y : A) → Some x ≡ Some y → x ≡ y
some_same x y e = cc

-- a test that was demanded holds
pub demand_ok : (b : Bool) (f : RoomFault) (u : Unit {0}) → demand b f ≡ Ok u → b ≡ true
demand_ok true f u e = refl
demand_ok false f u e = absurd (cc)

-- where a test decides between a value and a fault, that value was given
pub cond_ok : {A : Type 0} (x : A) (f : RoomFault) (b : Bool) (y : A) → cond b (Ok x) (Err f) ≡ Ok y → x ≡ y
cond_ok x f true y e = ok_same x y e
cond_ok x f false y e = absurd (cc)

-- a value of the kind that was asked for
pub kind_ok : {A : Type 0} (s : Spot) (o : Option A) (x : A) → kind s o ≡ Ok x → o ≡ Some x
kind_ok s None x e = absurd (cc)
kind_ok s (Some y) x e = ap Some (ok_same y x e)

pub table_of : (known : List (List ℕ)) (s : Spot) (d : Data) (t : Members) → table_with known s d ≡ Ok t → as_table d ≡ Some t
table_of known s d t e =
    let (members, is, e1) = bind_ok (kind s (as_table d)) _ t e in
    kind_ok s (as_table d) members is ∙ ap Some (cond_ok members (fault.Unknown s) (has_only known members) t e1)

pub required_ok : {A : Type 0} (s : Spot) (check : Spot → Data → Result A RoomFault) (o : Option Data) (x : A) → required s check o ≡ Ok x → (d : Data) × (check s d ≡ Ok x)
required_ok s check None x e = absurd (cc)
required_ok s check (Some d) x e = (d, e)

-- what holds of the default and of each value that the check gives
pub optional_ok : {A : Type 0} (P : A → Type 0) (default : A) (s : Spot) (check : Spot → Data → Result A RoomFault) (o : Option Data) (x : A) → P default → ((d : Data) → check s d ≡ Ok x → P x) → optional default s check o ≡ Ok x → P x
optional_ok P default s check None x given checked e = let same : default ≡ x = cc in subst P same given
optional_ok P default s check (Some d) x given checked e = checked d e

pub in_range_between : (lo hi n : ℕ) → in_range lo hi n ≡ true → IsBetween lo hi n
in_range_between lo hi n e = let (least, most) = and_parts (nat_le lo n) (nat_le n hi) e in (grind (arith, nat_tests, least), grind (arith, nat_tests, most))

ranged_if : (lo hi n : ℕ) (f : RoomFault) (b : Bool) (x : ℕ) → in_range lo hi n ≡ b → (if b then Ok n else Err f) ≡ Ok x → IsBetween lo hi x
ranged_if lo hi n f true x test e = let same : n ≡ x = cc in subst (λ m. IsBetween lo hi m) same (in_range_between lo hi n test)
ranged_if lo hi n f false x test e = absurd (cc)

ranged_between : (lo hi : ℕ) (s : Spot) (z : ℤ) (x : ℕ) → ranged lo hi s z ≡ Ok x → IsBetween lo hi x
ranged_between lo hi s (pos n) x e = ranged_if lo hi n _ (in_range lo hi n) x refl e
ranged_between lo hi s (negsuc n) x e = absurd (cc)

-- a number that passed its check is in its range
pub number_between : (lo hi : ℕ) (s : Spot) (d : Data) (x : ℕ) → number lo hi s d ≡ Ok x → IsBetween lo hi x
number_between lo hi s d x e = let (z, _, in_its_range) = bind_ok (kind s (as_integer d)) (ranged lo hi s) x e in ranged_between lo hi s z x in_its_range

-- just so many numbers, each in a range
pub record AreBetween (count lo hi : ℕ) (ns : List ℕ) : Type 0 where
  pub as_many : length ns ≡ count
  pub each_one : (k : ℕ) → k < count → IsBetween lo hi (get_or ns k 0)

after_first : (lo hi n : ℕ) (ns : List ℕ) (count : ℕ) → IsBetween lo hi n → AreBetween count lo hi ns → (k : ℕ) → k < suc count → IsBetween lo hi (get_or (n ∷ ns) k 0)
after_first lo hi n ns count first more zero h = first
after_first lo hi n ns count first more (suc k) h = more.each_one k (omega arith)

each_between : (lo hi : ℕ) (s : Spot) (ds : List Data) (ns : List ℕ) → each (number lo hi s) ds ≡ Ok ns → AreBetween (length ds) lo hi ns
each_between lo hi s [] ns e =
    let same : [] ≡ ns = cc in
    subst (λ l. AreBetween 0 lo hi l) same (record { as_many = refl; each_one = λ k h. absurd (omega (arith, h)) })
each_between lo hi s (d ∷ ds) ns e =
    let (n, first, then_rest) = bind_ok (number lo hi s d) (λ y. each (number lo hi s) ds >>= λ ys. Ok (y ∷ ys)) ns e in
    let (more, rest, last) = bind_ok (each (number lo hi s) ds) (λ ys. Ok (n ∷ ys)) ns then_rest in
    let same : (n ∷ more) ≡ ns = cc in
    let tail = each_between lo hi s ds more rest in
    subst (λ l. AreBetween (suc (length ds)) lo hi l) same
    (record { as_many = ap suc tail.as_many; each_one = after_first lo hi n more (length ds) (number_between lo hi s d n first) tail })

all_numbers_if : (count lo hi : ℕ) (s : Spot) (ds : List Data) (b : Bool) (ns : List ℕ) → ((length ds == count) && list_all is_integer ds) ≡ b → (if b then each (number lo hi s) ds else Err (fault.Kind s)) ≡ Ok ns → AreBetween count lo hi ns
all_numbers_if count lo hi s ds true ns test e =
    let (as_many, _) = and_parts (length ds == count) (list_all is_integer ds) test in
    let same : length ds ≡ count = grind (arith, nat_tests, as_many) in
    subst (λ n. AreBetween n lo hi ns) same (each_between lo hi s ds ns e)
all_numbers_if count lo hi s ds false ns test e = absurd (cc)

-- numbers that passed their check are as many as were asked for, each in its range
pub numbers_between : (count lo hi : ℕ) (s : Spot) (d : Data) (ns : List ℕ) → numbers count lo hi s d ≡ Ok ns → AreBetween count lo hi ns
numbers_between count lo hi s d ns e =
    let (ds, _, checked) = bind_ok (array s d) (all_numbers count lo hi s) ns e in
    all_numbers_if count lo hi s ds ((length ds == count) && list_all is_integer ds) ns refl checked

-- the same of a key that has to be given
pub required_number_between : (lo hi : ℕ) (s : Spot) (o : Option Data) (x : ℕ) → required s (number lo hi) o ≡ Ok x → IsBetween lo hi x
required_number_between lo hi s o x e = let (d, checked) = required_ok s (number lo hi) o x e in number_between lo hi s d x checked

pub required_numbers_between : (count lo hi : ℕ) (s : Spot) (o : Option Data) (ns : List ℕ) → required s (numbers count lo hi) o ≡ Ok ns → AreBetween count lo hi ns
required_numbers_between count lo hi s o ns e = let (d, checked) = required_ok s (numbers count lo hi) o ns e in numbers_between count lo hi s d ns checked

-- the same of a key that has a default
pub optional_number_between : (default lo hi : ℕ) (s : Spot) (o : Option Data) (x : ℕ) → IsBetween lo hi default → optional default s (number lo hi) o ≡ Ok x → IsBetween lo hi x
optional_number_between default lo hi s o x given e = optional_ok (λ n. IsBetween lo hi n) default s (number lo hi) o x given (λ d checked. number_between lo hi s d x checked) e

pub optional_numbers_between : (default : List ℕ) (count lo hi : ℕ) (s : Spot) (o : Option Data) (ns : List ℕ) → AreBetween count lo hi default → optional default s (numbers count lo hi) o ≡ Ok ns → AreBetween count lo hi ns
optional_numbers_between default count lo hi s o ns given e = optional_ok (λ l. AreBetween count lo hi l) default s (numbers count lo hi) o ns given (λ d checked. numbers_between count lo hi s d ns checked) e

-- lists of defaults, number by number
pub none_between : (lo hi : ℕ) → AreBetween 0 lo hi []
none_between lo hi = record { as_many = refl; each_one = λ k h. absurd (omega (arith, h)) }

pub one_more_between : (count lo hi n : ℕ) (ns : List ℕ) → IsBetween lo hi n → AreBetween count lo hi ns → AreBetween (suc count) lo hi (n ∷ ns)
one_more_between count lo hi n ns first more = record { as_many = ap suc more.as_many; each_one = after_first lo hi n ns count first more }

-- the default of room.reflect
pub no_reflects_between : AreBetween 6 0 950 (0 ∷ 0 ∷ 0 ∷ 0 ∷ 0 ∷ 0 ∷ [])
no_reflects_between =
    let zero_fits : IsBetween 0 950 0 = (lit≤ tt, lit≤ tt) in
    one_more_between 5 0 950 0 _ zero_fits (one_more_between 4 0 950 0 _ zero_fits (one_more_between 3 0 950 0 _ zero_fits
    (one_more_between 2 0 950 0 _ zero_fits (one_more_between 1 0 950 0 _ zero_fits (one_more_between 0 0 950 0 _ zero_fits (none_between 0 950))))))

-- the default of lamp.size
pub no_size_between : AreBetween 2 0 5000 (0 ∷ 0 ∷ [])
no_size_between =
    let zero_fits : IsBetween 0 5000 0 = (lit≤ tt, lit≤ tt) in
    one_more_between 1 0 5000 0 _ zero_fits (one_more_between 0 0 5000 0 _ zero_fits (none_between 0 5000))

-- the default of lamp.split
pub no_split_between : AreBetween 2 1 8 (1 ∷ 1 ∷ [])
no_split_between =
    let one_fits : IsBetween 1 8 1 = (lit≤ tt, lit≤ tt) in
    one_more_between 1 1 8 1 _ one_fits (one_more_between 0 1 8 1 _ one_fits (none_between 1 8))
