-- What holds of every room that the layout gives, and of the order in which a document has its keys.
use Rattle.std.specs.Prelude.{◌≡◌, ℕ, List, Option, Some, None, Ok}
use Rattle.room_layout.specs.declared.room.Room.{Room}
use Rattle.toml.specs.Data.{Data, array, table, Items, no_items, item, Members, get_member}
use Rattle.room_layout.specs.Layout.{room_of_document, room_of}
use Rattle.room_layout.specs.Accepted.{IsAccepted}
use Rattle.room_layout.specs.Files.{HasEachFileOnce, ShinesAsAsked}

-- ---- the rooms

-- a room that the layout gives is within every range and limit
abbrev pub GivesAccepted : Type 0
GivesAccepted = (bytes : List ℕ) (r : Room) → room_of bytes ≡ Ok r → IsAccepted r

-- a room of the layout has each pair of file and set that its lamps use once, in order of first use, and each lamp that shines by a
-- file has the pair that its table in the document asks for
abbrev pub GivesFiles : Type 0
GivesFiles = (document : Members) (r : Room) → room_of_document document ≡ Ok r → HasEachFileOnce r × ShinesAsAsked document r

-- ---- the order of keys

mutual
  -- two values that are the same but for the order of keys, at every level
  pub data IsReordered : Data → Data → Type 0 where
    same : {d : Data} → IsReordered d d
    arrays : {a b : Items} → AreItemsReordered a b → IsReordered (array a) (array b)
    tables : {a b : Members} → ((k : List ℕ) → IsReorderedIfGiven (get_member k a) (get_member k b)) → IsReordered (table a) (table b)

  -- what two tables have at a key: neither has it, or both have, and the values are the same but for the order of keys
  pub data IsReorderedIfGiven : Option Data → Option Data → Type 0 where
    neither : IsReorderedIfGiven None None
    both : {d e : Data} → IsReordered d e → IsReorderedIfGiven (Some d) (Some e)

  -- as many items, and each in turn the same but for the order of keys
  pub data AreItemsReordered : Items → Items → Type 0 where
    none : AreItemsReordered no_items no_items
    next : {d e : Data} {a b : Items} → IsReordered d e → AreItemsReordered a b → AreItemsReordered (item d a) (item e b)

-- two tables that are the same but for the order of keys, at every level
abbrev pub AreReordered : Members → Members → Type 0
AreReordered a b = (k : List ℕ) → IsReorderedIfGiven (get_member k a) (get_member k b)

-- documents that are the same but for the order of keys, at every level, give the same room or the same fault
abbrev pub IgnoresOrder : Type 0
IgnoresOrder = (a b : Members) → AreReordered a b → room_of_document a ≡ room_of_document b
