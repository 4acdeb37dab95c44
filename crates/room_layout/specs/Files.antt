-- The pairs of file and set that the lamps of a room use.
use Rattle.std.specs.Prelude.{◌≡◌, ◌≢◌, ℕ, ◌+◌, ◌<◌, pos, List, [], length, take, slice_index_or, Any, AllPairs, Some, option_and_then, MatchOption, codes}
use Rattle.std.specs.List.{AllZip}
use Rattle.std.specs.Option.{option_map_or}
use Rattle.toml.specs.Data.{Data, Members, get_member, as_integer, as_str, as_array, as_table}
use Rattle.room_layout.specs.Checks.{items_list}
use Rattle.room_layout.specs.declared.room.Lamp.{Lamp}
use Rattle.room_layout.specs.declared.room.Shine.TheVariants.{File}
use Rattle.room_layout.specs.declared.room.FileUse.{FileUse}
use Rattle.room_layout.specs.declared.room.Room.{Room}

-- ---- each pair once, in order of first use

-- the lamp shines as the file at this index says
abbrev pub ShinesBy : ℕ → Lamp → Type 0
ShinesBy k lamp = lamp.shine ≡ File k

-- no pair of file and set is there twice
abbrev pub AreDistinct : List FileUse → Type 0
AreDistinct files = AllPairs (λ f g. f ≢ g) files

-- each is used by some lamp
abbrev pub AreUsed : List FileUse → List Lamp → Type 0
AreUsed files lamps = (k : ℕ) → k < length files → Any (ShinesBy k) lamps

-- a lamp that shines by a file comes after one that shines by the file before it
abbrev pub AreInOrderOfUse : List Lamp → Type 0
AreInOrderOfUse lamps = (i k : ℕ) (d : Lamp) → i < length lamps → ShinesBy (k + 1) (slice_index_or lamps i d) → Any (ShinesBy k) (take i lamps)

-- the room has each pair of file and set that its lamps use once, in order of first use
pub record HasEachFileOnce (r : Room) : Type 0 where
  pub apart : AreDistinct r.files
  pub used : AreUsed r.files r.lamps
  pub in_order : AreInOrderOfUse r.lamps

-- ---- which pair each lamp asks for

-- the lamp's table has this name at `file` and this number at `set`, where `set` isn't given for 1
pub record AsksFor (f : FileUse) (d : Data) : Type 0 where
  pub lamp : Members
  pub table : as_table d ≡ Some lamp
  pub name : option_and_then as_str (get_member (codes "file") lamp) ≡ Some f.name
  pub set : MatchOption (get_member (codes "set") lamp) (f.set ≡ 1) (λ v. as_integer v ≡ Some (pos f.set))

-- the values in the array `lamp` of a document, none where it isn't given
abbrev pub lamps_in : Members → List Data
lamps_in document = option_map_or (λ d. option_map_or items_list (as_array d) []) (get_member (codes "lamp") document) []

-- there are as many lamps as in the document, and each that shines by a file asks for its pair there
abbrev pub ShinesAsAsked : Members → Room → Type 0
ShinesAsAsked document r = AllZip (λ d lamp. (k : ℕ) (f : FileUse) → ShinesBy k lamp → AsksFor (slice_index_or r.files k f) d) (lamps_in document) r.lamps
