-- The enclosures of direct light and of coefficients aren't empty: each lower end is at most its upper end.
use Rattle.std.proofs.Common.{ℕ, ◌+◌, ◌*◌, ◌%◌, ◌<◌, ◌≡◌, Bool, List, length, refl}
use Rattle.std.specs.Prelude.{slice_index_or}
use Rattle.std.proofs.lemmas.List.Elements.{All-get_or}
use Rattle.fx_base.specs.Fraction.{Fraction, half_power, ratio, whole}
use Rattle.fx_base.specs.Interval.{InOrder, Interval, sum_of}
use Rattle.fx_base.proofs.Order.{le_of_eq_f}
use Rattle.fx_base.proofs.Sums.{sum_to_le}
use Rattle.room_layout.specs.Accepted.{IsAccepted, IsLampIn, IsShine}
use Rattle.room_layout.specs.Place.{Place}
use Rattle.room_layout.specs.declared.geometry.Face.{Face}
use Rattle.room_layout.specs.declared.geometry.Face.TheVariants.{Up}
use Rattle.room_layout.specs.declared.room.Lamp.{Lamp}
use Rattle.room_layout.specs.declared.room.Room.{Room}
use Rattle.room_layout.specs.declared.room.Shine.{Shine}
use Rattle.room_layout.specs.declared.room.Shine.TheVariants.{File}
use Rattle.photo_table.specs.Table.{Table, value}
use Rattle.patch_mesh.specs.Bounds.{IsPatchIn, largest_room}
use Rattle.patch_mesh.specs.Patches.{patches}
use Rattle.patch_mesh.specs.declared.patch.Patch.{Patch}
use Rattle.patch_mesh.proofs.Fits.{patches_reach}
use Rattle.form_factor.specs.Coefficient.{coefficient, loose_coefficient}
use Rattle.form_factor.proofs.Coefficients.{nests}
use Rattle.direct_light.specs.Lamps.{lamp_place, part_count}
use Rattle.direct_light.specs.Shares.{loose_share, share, table_at}
use Rattle.direct_light.specs.Laws.{IsOrdered}
use Rattle.direct_light.proofs.Ordered.{lamp_shares_in_order, outward_order}
use Rattle.scene_system.specs.Laws.{HasEndsInOrder, RadiosityIsInOrder}
use Rattle.sight_line.specs.Sight.{is_clear}
use Rattle.direct_light.specs.LampLight.{light_of_lamp}
use Rattle.scene_system.specs.Light.{light_of_room, no_lamp}
use Rattle.scene_system.specs.Scene.{patch_count, patch_of, patch_place, patch_face, no_patch, task_point_place, coefficient_by, coefficient_at, equations, loose_coefficient_at}
use Rattle.scene_system.specs.Tables.{AreExactTables}

-- ---- shares

-- an exact table has intensities in order
ordered : (room : Room) (tables : List Table) (k : ℕ) → AreExactTables room tables → k < length tables → IsOrdered (table_at tables k)
unfolding value
ordered room tables k is inside =
    let t = table_at tables k in
    record { is_table = is.is_table k inside; values = λ i j. le_of_eq_f ((is.exact k inside).each (i % length t.planes * length t.gammas + j)) }

-- the lamp's file, if it has one, has a table
abbrev HasTable : List Table → Lamp → Type 0
HasTable tables l = IsShine (length tables) l.shine

file_inside : (files k : ℕ) (s : Shine) → s ≡ File k → IsShine files s → k < files
file_inside files k s e is = rw e at is

shares_order : (n : ℕ) (room : Room) (tables : List Table) (l : Lamp) (q p : Place) (face : Face) (clear : Bool) → AreExactTables room tables → HasTable tables l
    → InOrder (share n tables l q p face clear) × InOrder (loose_share n tables l q p face clear)
shares_order n room tables l q p face clear is has =
    lamp_shares_in_order n tables l q p face clear (λ k e. ordered room tables k is (file_inside (length tables) k l.shine e has))

-- each lamp of an accepted room is given by candela or by one of its files
each_has : (room : Room) (tables : List Table) (k : ℕ) → IsAccepted room → AreExactTables room tables → k < length room.lamps → HasTable tables (slice_index_or room.lamps k no_lamp)
each_has room tables k accepted is inside =
    rw is.count ((All-get_or (IsLampIn room.size (length room.files)) room.lamps k no_lamp inside accepted.each_lamp).shine)

-- so the shares of its points are in order
lamp_shares_order : (n : ℕ) (tables : List Table) (room : Room) (k : ℕ) (q p : Place) (face : Face) (clear : Bool) → IsAccepted room
    → AreExactTables room tables → k < length room.lamps → InOrder (share n tables (slice_index_or room.lamps k no_lamp) q p face clear)
    × InOrder (loose_share n tables (slice_index_or room.lamps k no_lamp) q p face clear)
lamp_shares_order n tables room k q p face clear accepted is inside =
    shares_order n room tables (slice_index_or room.lamps k no_lamp) q p face clear is (each_has room tables k accepted is inside)

-- ---- sums

sum_order : (count : ℕ) (f : ℕ → Interval) → ((k : ℕ) → k < count → InOrder (f k)) → InOrder (sum_of count f)
sum_order count f each = sum_to_le count (λ k. (f k).lo) (λ k. (f k).hi) each

-- where the share of each point of a lamp is in order, so is the light of the lamp
lamp_order : (share : Lamp → Place → Place → Face → Bool → Interval) (room : Room) (p : Place) (face : Face) (l : Lamp)
    → ((q : Place) (clear : Bool) → InOrder (share l q p face clear)) → InOrder (light_of_lamp share room p face l)
lamp_order share room p face l each =
    sum_order (part_count l) (λ k. share l (lamp_place l k) p face (is_clear room (lamp_place l k) p))
    (λ k h. each (lamp_place l k) (is_clear room (lamp_place l k) p))

-- and where that of each lamp is, so is the light of all
light_order : (share : Lamp → Place → Place → Face → Bool → Interval) (room : Room) (p : Place) (face : Face)
    → ((k : ℕ) → k < length room.lamps → (q : Place) (clear : Bool) → InOrder (share (slice_index_or room.lamps k no_lamp) q p face clear))
    → InOrder (light_of_room share room p face)
light_order share room p face each =
    sum_order (length room.lamps) (λ k. light_of_lamp share room p face (slice_index_or room.lamps k no_lamp))
    (λ k h. lamp_order share room p face (slice_index_or room.lamps k no_lamp) (each k h))

-- ---- coefficients

pub patch_reaches : (room : Room) (j : ℕ) → IsAccepted room → j < patch_count room → IsPatchIn largest_room (patch_of room j)
patch_reaches room j accepted l = All-get_or (IsPatchIn largest_room) (patches room) j no_patch l (patches_reach room (patches room) accepted refl)

pub coefficient_order : (n : ℕ) (room : Room) (p : Place) (face : Face) (j : ℕ) → IsAccepted room → j < patch_count room
    → InOrder (coefficient_at n room p face j)
coefficient_order n room p face j accepted l =
    (nests p face (patch_of room j) (is_clear room p (patch_place room j)) (patch_reaches room j accepted l).some).order n

pub loose_coefficient_order : (n : ℕ) (room : Room) (p : Place) (face : Face) (j : ℕ) → IsAccepted room → j < patch_count room
    → InOrder (loose_coefficient_at n room p face j)
loose_coefficient_order n room p face j accepted l = outward_order (half_power 32) (coefficient_at n room p face j) (coefficient_order n room p face j accepted l)

-- ---- the room

-- where its coefficients and its direct light are in order, so are a room's equations
equations_order : (factor : Place → Face → Patch → Bool → Interval) (share : Lamp → Place → Place → Face → Bool → Interval) (move : Fraction)
    (room : Room)
    → ((p : Place) (face : Face) (j : ℕ) → j < patch_count room → InOrder (coefficient_by factor room p face j))
    → ((p : Place) (face : Face) → InOrder (light_of_room share room p face)) → HasEndsInOrder (equations factor share move room)
equations_order factor share move room coefficients lights = record {
  coefficient = λ i j k l. coefficients (patch_place room i) (patch_face room i) j l;
  direct = λ i k. lights (patch_place room i) (patch_face room i);
  point_coefficient = λ g j k l. coefficients (task_point_place room g) Up j l;
  point_direct = λ g k. lights (task_point_place room g) Up;
}

pub in_order : RadiosityIsInOrder
in_order n tables room accepted is = (
  equations_order (coefficient n) (share n tables) (whole 0) room (λ p face j l. coefficient_order n room p face j accepted l)
      (λ p face. light_order (share n tables) room p face (λ k h q clear. (lamp_shares_order n tables room k q p face clear accepted is h).0)),
  equations_order (loose_coefficient n) (loose_share n tables) (ratio 1 10000) room (λ p face j l. loose_coefficient_order n room p face j accepted l)
      (λ p face. light_order (loose_share n tables) room p face (λ k h q clear. (lamp_shares_order n tables room k q p face clear accepted is h).1)),
)
