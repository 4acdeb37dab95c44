-- How the value of one key is checked: its kind, then its range. Each check gives a value or the first fault.
use Rattle.std.specs.Prelude.{ℕ, ◌==◌, Bool, not, ◌&&◌, nat_le, if◌then◌else◌, List, [], ◌∷◌, length, Option, Some, None, is_some, option_map, Result, Ok, Err, pos, negsuc, ℤ}
use Rattle.std.specs.List.{list_all, list_any}
use Rattle.std.specs.Str.{bytes_eq}
use Rattle.toml.specs.Data.{Data, Items, Members, as_integer, as_str, as_array, as_table}
use Rattle.toml.specs.Data.Items.{no_items, item}
use Rattle.toml.specs.Data.Members.{no_members, member}
use Rattle.room_layout.specs.declared.fault.Key.{Key}
use Rattle.room_layout.specs.declared.fault.Spot.{Spot}
use Rattle.room_layout.specs.declared.fault.RoomFault.{RoomFault}
use Rattle.room_layout.specs.declared.fault.RoomFault.TheVariants as fault

-- ---- one check after another

infixl 10 ◌>>=◌
abbrev pub ◌>>=◌ : {A B : Type 0} → Result A RoomFault → (A → Result B RoomFault) → Result B RoomFault
(Ok x) >>= f = f x
(Err e) >>= f = Err e

-- the fault where the test fails
abbrev pub demand : Bool → RoomFault → Result (Unit {0}) RoomFault
demand b e = if b then Ok tt else Err e

-- a check of each element in turn
abbrev pub each : {A B : Type 0} → (A → Result B RoomFault) → List A → Result (List B) RoomFault
each check [] = Ok []
each check (x ∷ xs) = check x >>= λ y. each check xs >>= λ ys. Ok (y ∷ ys)

abbrev pub spot : Key → ℕ → Spot
spot k i = record { key = k; index = i }

-- ---- whether a key is given

-- the value that the check gives, which has to be there
abbrev pub required : {A : Type 0} → Spot → (Spot → Data → Result A RoomFault) → Option Data → Result A RoomFault
required s check None = Err (fault.Missing s)
required s check (Some d) = check s d

-- the same, with a value in place of one that isn't given
abbrev pub optional : {A : Type 0} → A → Spot → (Spot → Data → Result A RoomFault) → Option Data → Result A RoomFault
optional default s check None = Ok default
optional default s check (Some d) = check s d

-- the same, with None in place of one that isn't given
abbrev pub where_given : {A : Type 0} → Spot → (Spot → Data → Result A RoomFault) → Option Data → Result (Option A) RoomFault
where_given s check None = Ok None
where_given s check (Some d) = check s d >>= λ x. Ok (Some x)

-- ---- numbers

abbrev pub in_range : ℕ → ℕ → ℕ → Bool
in_range lo hi n = nat_le lo n && nat_le n hi

-- the whole number of a signed one that is from lo to hi
abbrev pub ranged : ℕ → ℕ → Spot → ℤ → Result ℕ RoomFault
ranged lo hi s (pos n) = if in_range lo hi n then Ok n else Err (fault.Range s)
ranged lo hi s (negsuc n) = Err (fault.Range s)

-- a value of the kind that the key asks for
abbrev pub kind : {A : Type 0} → Spot → Option A → Result A RoomFault
kind s None = Err (fault.Kind s)
kind s (Some x) = Ok x

-- an integer from lo to hi
abbrev pub number : ℕ → ℕ → Spot → Data → Result ℕ RoomFault
number lo hi s d = kind s (as_integer d) >>= ranged lo hi s

abbrev pub is_integer : Data → Bool
is_integer d = is_some (as_integer d)

-- the values of an array's items
abbrev pub items_list : Items → List Data
items_list no_items = []
items_list (item d more) = d ∷ items_list more

-- an array
abbrev pub array : Spot → Data → Result (List Data) RoomFault
array s d = kind s (option_map items_list (as_array d))

-- just so many integers, each from lo to hi
abbrev pub all_numbers : ℕ → ℕ → ℕ → Spot → List Data → Result (List ℕ) RoomFault
all_numbers count lo hi s ds = if (length ds == count) && list_all is_integer ds then each (number lo hi s) ds else Err (fault.Kind s)

-- an array of just so many integers, each from lo to hi
abbrev pub numbers : ℕ → ℕ → ℕ → Spot → Data → Result (List ℕ) RoomFault
numbers count lo hi s d = array s d >>= all_numbers count lo hi s

-- ---- names of files

-- neither a control character below the space, nor the one at 127
abbrev pub is_printed : ℕ → Bool
is_printed byte = nat_le 32 byte && not (byte == 127)

-- 1 to `most` bytes, each of them printed
abbrev pub is_printable : ℕ → List ℕ → Bool
is_printable most bytes = in_range 1 most (length bytes) && list_all is_printed bytes

abbrev pub is_name : List ℕ → Bool
is_name bytes = is_printable 255 bytes

-- a text that may name a file
abbrev pub name_text : Spot → Data → Result (List ℕ) RoomFault
name_text s d = kind s (as_str d) >>= λ bytes. if is_name bytes then Ok bytes else Err (fault.Range s)

-- ---- tables

abbrev pub keys_of : Members → List (List ℕ)
keys_of no_members = []
keys_of (member k d more) = k ∷ keys_of more

abbrev pub is_among : List (List ℕ) → List ℕ → Bool
is_among known key = list_any (λ k. bytes_eq k key) known

-- no key of the table is another than these
abbrev pub has_only : List (List ℕ) → Members → Bool
has_only known members = list_all (is_among known) (keys_of members)

-- a table with no other keys than these
abbrev pub table_with : List (List ℕ) → Spot → Data → Result Members RoomFault
table_with known s d = kind s (as_table d) >>= λ members. if has_only known members then Ok members else Err (fault.Unknown s)

-- the elements of an array that has at most so many
abbrev pub elements : ℕ → Spot → Data → Result (List Data) RoomFault
elements most s d = array s d >>= λ ds. if nat_le (length ds) most then Ok ds else Err (fault.TooMany s)
