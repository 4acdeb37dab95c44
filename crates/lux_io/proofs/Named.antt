-- The bytes under a name, by the place at which a search finds it.
use Rattle.std.proofs.Common.{◌≡◌, ◌≢◌, ℕ, ◌<◌, ◌≤◌, Bool, true, false, cond, nat_lt, List, [], ◌∷◌, ◌++◌, map, length, get_or, set, Option, Some, None, refl, ap, sym, subst, inl, inr, ◌∙◌, string_bytes, arith}
use Rattle.std.specs.List.{find, position, position_or_len, slice_get}
use Rattle.std.specs.Option.{option_map, option_or}
use Rattle.std.specs.Str.{bytes_eq}
use Rattle.std.specs.Prelude.{if◌then◌else◌}
use Rattle.std.proofs.lemmas.Bool.{ltb-false}
use borrow.Author.Tests.{ltb-true}
use Rattle.std.proofs.lemmas.List.Folds.{find_at, find-set, find_past, find-append}
use Rattle.std.proofs.lemmas.List.Quantifiers.{position-Some}
use Rattle.std.proofs.lemmas.Option.{slice_get_past, slice_get_cases}
use Rattle.std.proofs.lemmas.Slice.Eq.{bytes_eq-Decides}
use Rattle.lux_io.specs.declared.mem_shelf.Stored.{Stored}
use Rattle.lux_io.specs.Files.{bytes_of, Puts}
use Rattle.lux_io.specs.MemShelf.{bytes_at, named}

-- whether a stored file has this name
abbrev pub has_name : List ℕ → Stored → Bool
has_name name stored = bytes_eq (string_bytes stored.name) name

abbrev pub stored_bytes : Stored → List ℕ
stored_bytes stored = stored.bytes.items

pub bytes_of-find : (name : List ℕ) (files : List Stored) → bytes_of name (map named files) ≡ option_map stored_bytes (find (has_name name) files)
bytes_of-find name [] = refl
bytes_of-find name (f ∷ fs) =
    elim (has_name name f) as (λ b. (if b then Some f.bytes.items else bytes_of name (map named fs)) ≡ option_map stored_bytes (cond b (Some f) (find (has_name name) fs)))
    [ true ↦ refl | false ↦ bytes_of-find name fs ]

-- where the search finds a place, it is the first one, and in the list
found_by : (b : Bool) (first all place : ℕ) → nat_lt first all ≡ b → cond b (Some first) None ≡ Some place → (first ≡ place) × (place < all)
found_by true first all place test found = let e : first ≡ place = cc in (e, subst (λ n. n < all) e (ltb-true first all test))
found_by false first all place test found = absurd (cc)

pub place_found : {X : Type 0} (p : X → Bool) (xs : List X) (place : ℕ) → position p xs ≡ Some place → (position_or_len p xs ≡ place) × (place < length xs)
place_found p xs place found = found_by (nat_lt (position_or_len p xs) (length xs)) (position_or_len p xs) (length xs) place refl found

missing_by : (b : Bool) (first all : ℕ) → nat_lt first all ≡ b → cond b (Some first) None ≡ None → all ≤ first
missing_by true first all test missing = absurd (cc)
missing_by false first all test missing = ltb-false first all test

pub find_nothing : {X : Type 0} (p : X → Bool) (xs : List X) → position p xs ≡ None → find p xs ≡ None
find_nothing p xs missing = find_at p xs ∙ slice_get_past xs (position_or_len p xs) (missing_by (nat_lt (position_or_len p xs) (length xs)) (position_or_len p xs) (length xs) refl missing)

-- the bytes at a place
item_is_there : (files : List Stored) (place : ℕ) → place < length files → option_map stored_bytes (slice_get files place) ≡ Some (bytes_at files place)
item_is_there files place within =
    elim (slice_get_cases files place).1 [ inl w ↦ rw w.2 refl | inr w ↦ absurd (omega (arith, w.0)) ]

-- the bytes at the place where the name is found
pub bytes_of_place : (name : List ℕ) (files : List Stored) (place : ℕ) → position (has_name name) files ≡ Some place → bytes_of name (map named files) ≡ Some (bytes_at files place)
bytes_of_place name files place found =
    let at = place_found (has_name name) files place found in
    bytes_of-find name files ∙ ap (option_map stored_bytes) (find_at (has_name name) files ∙ ap (slice_get files) at.0) ∙ item_is_there files place at.1

-- no place, no bytes
pub bytes_of_absent : (name : List ℕ) (files : List Stored) → position (has_name name) files ≡ None → bytes_of name (map named files) ≡ None
bytes_of_absent name files missing = bytes_of-find name files ∙ ap (option_map stored_bytes) (find_nothing (has_name name) files missing)

-- a text has itself as its name, and no other
pub names_itself : (name : List ℕ) → bytes_eq name name ≡ true
names_itself name = (bytes_eq-Decides name name).1 refl

other_by : (b : Bool) (own other : List ℕ) → bytes_eq own other ≡ b → other ≢ own → b ≡ false
other_by true own other test differs = absurd (differs (sym ((bytes_eq-Decides own other).0 test)))
other_by false own other test differs = refl

pub names_no_other : (own other : List ℕ) → other ≢ own → bytes_eq own other ≡ false
names_no_other own other differs = other_by (bytes_eq own other) own other refl differs

-- the bytes put in the place of those that the name had
pub puts_over : (files : List Stored) (place : ℕ) (name bytes : List ℕ) (old new : Stored) → position (has_name name) files ≡ Some place → old ≡ get_or files place old → string_bytes new.name ≡ string_bytes old.name → new.bytes.items ≡ bytes → Puts (map named files) (map named (set files place new)) name bytes
puts_over files place name bytes old new found is same has =
    let at = place_found (has_name name) files place found in
    let here = position-Some (has_name name) files place old found in
    let own : string_bytes old.name ≡ name = (bytes_eq-Decides (string_bytes old.name) name).0 (subst (λ (f : Stored). bytes_eq (string_bytes f.name) name ≡ true) (sym is) here.1) in
    let new_own : string_bytes new.name ≡ name = same ∙ own in
    record {
      put = bytes_of-find name (set files place new) ∙ ap (option_map stored_bytes) (find-set (has_name name) files place new (sym at.0) at.1 (rw new_own (names_itself name))) ∙ ap Some has;
      others = λ other differs.
          bytes_of-find other (set files place new) ∙ ap (option_map stored_bytes) (find_past (has_name other) files place new old
          (subst (λ (f : Stored). bytes_eq (string_bytes f.name) other ≡ false) is (rw own (names_no_other name other differs)))
          (rw new_own (names_no_other name other differs))) ∙ sym (bytes_of-find other files);
    }

or_nothing : {X : Type 0} (o : Option X) → option_or o None ≡ o
or_nothing None = refl
or_nothing (Some x) = refl

-- the bytes put after all others, where the name had none
pub puts_after : (files : List Stored) (name bytes : List ℕ) (new : Stored) → position (has_name name) files ≡ None → string_bytes new.name ≡ name → new.bytes.items ≡ bytes → Puts (map named files) (map named (files ++ new ∷ [])) name bytes
puts_after files name bytes new missing own has =
    let own_test : has_name name new ≡ true = rw own (names_itself name) in
    let last : find (has_name name) (new ∷ []) ≡ Some new = ap (λ (b : Bool). cond b (Some new) None) own_test in
    let found : find (has_name name) (files ++ new ∷ []) ≡ Some new = find-append (has_name name) files (new ∷ []) ∙ ap (λ (o : Option Stored). option_or o (find (has_name name) (new ∷ []))) (find_nothing (has_name name) files missing) ∙ last in
    record {
      put = bytes_of-find name (files ++ new ∷ []) ∙ ap (option_map stored_bytes) found ∙ ap Some has;
      others = λ other differs.
          let other_test : has_name other new ≡ false = rw own (names_no_other name other differs) in
          let none : find (has_name other) (new ∷ []) ≡ None = ap (λ (b : Bool). cond b (Some new) None) other_test in
          let same : find (has_name other) (files ++ new ∷ []) ≡ find (has_name other) files = find-append (has_name other) files (new ∷ []) ∙ ap (λ (o : Option Stored). option_or (find (has_name other) files) o) none ∙ or_nothing (find (has_name other) files) in
          bytes_of-find other (files ++ new ∷ []) ∙ ap (option_map stored_bytes) same ∙ sym (bytes_of-find other files);
    }
