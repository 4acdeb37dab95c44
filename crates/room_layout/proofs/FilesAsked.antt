-- Each lamp of a room that shines by a file has the name and the set that its table asks for.
use Rattle.std.proofs.Common.{◌≡◌, ℕ, ◌+◌, ◌<◌, pos, negsuc, ℤ, List, [], ◌∷◌, length, get_or, Option, Some, None, MatchOption, Ok, codes, refl, ap, subst, sym, ◌∙◌}
use Rattle.std.specs.List.{position, AllZip}
use Rattle.std.specs.Option.{option_map, option_map_or, option_and_then}
use Rattle.toml.specs.Data.{Data, Items, Members, get_member, as_integer, as_str, as_array}
use Rattle.room_layout.specs.declared.fault.Key.TheVariants as key
use Rattle.room_layout.specs.declared.fault.RoomFault.TheVariants as fault
use Rattle.room_layout.specs.declared.fault.Spot.{Spot}
use Rattle.room_layout.specs.declared.parts.Shell.{Shell}
use Rattle.room_layout.specs.declared.room.Lamp.{Lamp}
use Rattle.room_layout.specs.declared.room.Shine.{Shine}
use Rattle.room_layout.specs.declared.room.Shine.TheVariants.{Even, File}
use Rattle.room_layout.specs.declared.room.FileUse.{FileUse}
use Rattle.room_layout.specs.declared.room.Room.{Room}
use Rattle.room_layout.specs.declared.parts.Lit.{Lit}
use Rattle.room_layout.specs.Checks.{◌>>=◌, spot, optional, where_given, kind, in_range, ranged, number, is_name, name_text, items_list, array, elements}
use Rattle.room_layout.specs.Layout.{is_same_use, placed, shine_of, lamp_keys, lamp_of, lamps_from, room_of_document}
use Rattle.room_layout.specs.Files.{ShinesBy, AsksFor, lamps_in, ShinesAsAsked}
use Rattle.room_layout.proofs.Ranges.{bind_ok, ok_same, some_same, cond_ok, kind_ok, table_of}
use Rattle.room_layout.proofs.AcceptsLamps.{checked_accepted, source_parts, lamp_parts, lamp_of_parts}
use Rattle.room_layout.proofs.AcceptsRoom.{lamps_read, room_parts}
use Rattle.room_layout.proofs.FilesOnce.{same_index, uses_placed, lamps_use}

-- ---- what a check that gave a value has seen in the document

name_seen : (s : Spot) (o : Option Data) (name : List ℕ) → where_given s name_text o ≡ Ok (Some name) → option_and_then as_str o ≡ Some name
name_seen s None name e = absurd (cc)
name_seen s (Some d) name e =
    let (n, checked, last) = bind_ok (name_text s d) (λ n. Ok (Some n)) (Some name) e in
    let (bytes, is, e1) = bind_ok (kind s (as_str d)) _ n checked in
    let same : bytes ≡ n = cond_ok bytes (fault.Range s) (is_name bytes) n e1 in
    kind_ok s (as_str d) bytes is ∙ ap Some same ∙ ok_same _ _ last

ranged_seen : (lo hi : ℕ) (s : Spot) (z : ℤ) (n : ℕ) → ranged lo hi s z ≡ Ok n → z ≡ pos n
ranged_seen lo hi s (pos m) n e = ap pos (cond_ok m (fault.Range s) (in_range lo hi m) n e)
ranged_seen lo hi s (negsuc m) n e = absurd (cc)

number_seen : (lo hi : ℕ) (s : Spot) (d : Data) (n : ℕ) → number lo hi s d ≡ Ok n → as_integer d ≡ Some (pos n)
number_seen lo hi s d n e =
    let (z, is, e1) = bind_ok (kind s (as_integer d)) (ranged lo hi s) n e in
    kind_ok s (as_integer d) z is ∙ ap Some (ranged_seen lo hi s z n e1)

set_seen : (s : Spot) (o : Option Data) (set : ℕ) → optional 1 s (number 1 20) o ≡ Ok set → MatchOption o (set ≡ 1) (λ v. as_integer v ≡ Some (pos set))
set_seen s None set e = sym (ok_same 1 set e)
set_seen s (Some d) set e = number_seen 1 20 s d set e

items_seen : (o : Option Items) (ds : List Data) → option_map items_list o ≡ Some ds → option_map_or items_list o [] ≡ ds
items_seen None ds e = absurd (cc)
items_seen (Some items) ds e = some_same (items_list items) ds e

array_seen : (most : ℕ) (s : Spot) (o : Option Data) (ds : List Data) → optional [] s (elements most) o ≡ Ok ds → option_map_or (λ d. option_map_or items_list (as_array d) []) o [] ≡ ds
array_seen most s None ds e = ok_same [] ds e
array_seen most s (Some d) ds e =
    let (items, is, e1) = bind_ok (array s d) _ ds e in
    items_seen (as_array d) items (kind_ok s (option_map items_list (as_array d)) items is) ∙ cond_ok items (fault.TooMany s) _ ds e1

-- ---- one lamp

-- the lamp shines by file k of the files after it, which is its own pair of file and set
record ShinesByOwn (file : Option (List ℕ)) (set : ℕ) (more : List FileUse) (k : ℕ) : Type 0 where
  name : List ℕ
  given : file ≡ Some name
  within : k < length more
  own : (d : FileUse) → get_or more k d ≡ record { name = name; set = set }

own_shine : (i : ℕ) (files : List FileUse) (set : ℕ) (candela : Option ℕ) (file : Option (List ℕ)) (r : Shine × List FileUse) (k : ℕ) → shine_of i files set candela file ≡ Ok r → r.0 ≡ File k → ShinesByOwn file set r.1 k
unfolding shine_of
own_shine i files set None None r k e is = absurd (cc)
own_shine i files set (Some n) (Some name) r k e is = absurd (cc)
own_shine i files set (Some n) None r k e is =
    let same : (Even n, files) ≡ r = ok_same _ r e in
    let even : Even n ≡ r.0 = ap (λ (x : Shine × List FileUse). x.0) same in
    absurd (cc)
own_shine i files set None (Some name) r k e is =
    let f : FileUse = record { name = name; set = set } in
    let same : (File (placed f files).0, (placed f files).1) ≡ r = ok_same _ r e in
    let (_, within, own) = uses_placed f files (position (is_same_use f) files) refl in
    let at : (placed f files).0 ≡ k = same_index (placed f files).0 k (ap (λ (x : Shine × List FileUse). x.0) same ∙ is) in
    subst (λ v. ShinesByOwn (Some name) set v.1 k) same
    (subst (ShinesByOwn (Some name) set (placed f files).1) at (record { name = name; given = refl; within = within; own = own }))

-- the lamp's table asks for the file by which it shines
asks_own : (room : Shell) (i : ℕ) (files : List FileUse) (d : Data) (r : Lamp × List FileUse) → lamp_of room i files d ≡ Ok r → (k : ℕ) (f : FileUse) → ShinesBy k r.0 → (k < length r.1) × AsksFor (get_or r.1 k f) d
asks_own room i files d r e k f shines =
    let p = lamp_parts room i files d r e in
    let (same, _, _) = checked_accepted room i (lamp_of_parts p) p.lit.1 r p.end_is in
    let shine : p.lit.0 ≡ File k = ap (λ (x : Lamp × List FileUse). x.0.shine) same ∙ shines in
    let by = own_shine i files p.source.set p.source.candela p.source.file p.lit k p.lit_is shine in
    let source = source_parts i p.lamp p.source p.source_is in
    let asks : AsksFor (record { name = by.name; set = p.source.set }) d = record {
      lamp = p.lamp;
      table = table_of (lamp_keys room.version) (spot key.Lamp i) d p.lamp p.lamp_is;
      name = name_seen (spot key.LampFile i) (get_member (codes "file") p.lamp) by.name (source.file ∙ ap Ok by.given);
      set = set_seen (spot key.LampSet i) (get_member (codes "set") p.lamp) p.source.set source.set;
    } in
    subst (λ (x : Lamp × List FileUse). (k < length x.1) × AsksFor (get_or x.1 k f) d) same (by.within, subst (λ g. AsksFor g d) (sym (by.own f)) asks)

-- ---- all lamps

-- each lamp of these that shines by a file asks for it
abbrev AskFor : List Data → Lit → Type 0
AskFor ds r = AllZip (λ d lamp. (k : ℕ) (f : FileUse) → ShinesBy k lamp → AsksFor (get_or r.files k f) d) ds r.lamps

lamps_ask : (room : Shell) (i : ℕ) (files : List FileUse) (ds : List Data) (r : Lit) → lamps_from room i files ds ≡ Ok r → AskFor ds r
lamps_ask room i files [] r e = let same : record { lamps = []; files = files } ≡ r = ok_same _ r e in subst (AskFor []) same tt
lamps_ask room i files (d ∷ ds) r e =
    let (l, lamp_is, e1) = bind_ok (lamp_of room i files d) (λ l. lamps_from room (i + 1) l.1 ds >>= λ r. Ok (record { lamps = l.0 ∷ r.lamps; files = r.files })) r e in
    let (rest, rest_is, e2) = bind_ok (lamps_from room (i + 1) l.1 ds) (λ r. Ok (record { lamps = l.0 ∷ r.lamps; files = r.files })) r e1 in
    let same : record { lamps = l.0 ∷ rest.lamps; files = rest.files } ≡ r = ok_same _ r e2 in
    let more = lamps_use room (i + 1) l.1 ds rest rest_is in
    let first : (k : ℕ) (f : FileUse) → ShinesBy k l.0 → AsksFor (get_or rest.files k f) d =
    λ k f shines. let (within, asks) = asks_own room i files d l lamp_is k f shines in subst (λ g. AsksFor g d) (sym (more.kept k f within)) asks in
    subst (AskFor (d ∷ ds)) same (first, lamps_ask room (i + 1) l.1 ds rest rest_is)

-- ---- the room

pub document_asked : (document : Members) (r : Room) → room_of_document document ≡ Ok r → ShinesAsAsked document r
document_asked document r e =
    let parts = room_parts document r e in
    let (ds, given, read) = lamps_read parts.shell document _ parts.lamps_are in
    let same : lamps_in document ≡ ds = array_seen 256 (spot key.Lamp 0) (get_member (codes "lamp") document) ds given in
    let asked = lamps_ask parts.shell 0 [] ds (record { lamps = r.lamps; files = r.files }) read in
    subst (λ es. AskFor es (record { lamps = r.lamps; files = r.files })) (sym same) asked
