-- Values, arrays and tables as the layout's checks see them.
use Rattle.std.proofs.Common.{◌≡◌, ℕ, Bool, ◌||◌, ◌&&◌, List, [], ◌∷◌, map, refl, ap, String, Global, string_bytes}
use Rattle.std.specs.List.{list_all, list_any}
use Rattle.std.specs.Map.{keys_of as map_keys}
use Rattle.toml.specs.Data.{Data}
use Rattle.toml.specs.View.{items_of, members_view}
use Rattle.toml.specs.declared.value.Value.{Value}
use Rattle.room_layout.specs.Checks.{items_list, is_among, has_only}

-- the items of a list are that list
pub items_list-items_of : (ds : List Data) → items_list (items_of ds) ≡ ds
items_list-items_of [] = refl
items_list-items_of (d ∷ ds) = ap (λ ds. d ∷ ds) (items_list-items_of ds)

pub list_any-map : {A B : Type 0} (test : B → Bool) (f : A → B) (xs : List A) → list_any test (map f xs) ≡ list_any (λ x. test (f x)) xs
list_any-map test f [] = refl
list_any-map test f (x ∷ xs) = ap (λ b. test (f x) || b) (list_any-map test f xs)

-- the keys of a table are those of its map
pub has_only-entries : (known : List (List ℕ)) (es : List (String Global × Value)) → has_only known (members_view es) ≡ list_all (λ k. is_among known (string_bytes k)) (map_keys es)
has_only-entries known [] = refl
has_only-entries known (e ∷ es) = ap (λ b. is_among known (string_bytes e.0) && b) (has_only-entries known es)
