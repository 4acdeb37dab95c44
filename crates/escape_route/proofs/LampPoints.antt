-- The points of a lamp and the marked lamps as lists, and whether the way to a point is clear.
use Rattle.std.proofs.Common.{ℕ, ◌<◌, ◌≡◌, Bool, true, false, List, All, length, ap, refl, subst, ◌∙◌}
use Rattle.std.specs.Prelude.{not, slice_index_or}
use Rattle.std.proofs.lemmas.List.{get_or_default}
use Rattle.std.proofs.lemmas.List.Elements.{All-get_or}
use Rattle.fx_base.specs.Ends.{Ends}
use Rattle.room_layout.specs.Place.{Place, place_of, point_of}
use Rattle.room_layout.specs.declared.geometry.Face.{Face}
use Rattle.room_layout.specs.declared.geometry.Face.TheVariants.{Up}
use Rattle.room_layout.specs.declared.geometry.Point.{Point}
use Rattle.room_layout.specs.declared.room.Lamp.{Lamp}
use Rattle.room_layout.specs.declared.room.Room.{Room}
use Rattle.photo_table.specs.Table.{Table}
use Rattle.sight_line.specs.Sight.{is_clear}
use Rattle.direct_light.specs.Found.{IsLampLight, IsShare}
use Rattle.direct_light.specs.LampLight.{no_lamp}
use Rattle.direct_light.specs.Lamps.{lamp_place, lamp_points, part_count}
use Rattle.direct_light.proofs.PointLists.{lamp_point_at, length-lamp_points}
use Rattle.escape_route.specs.Light.{marked_lamp}

pub length_points : (l : Lamp) (points : List Point) → points ≡ lamp_points l → length points ≡ part_count l
length_points l points are = ap length are ∙ length-lamp_points l

-- the share of the point of number k
pub share_at : (photos : List Table) (greatest : ℕ) (room : Room) (p : Place) (face : Face) (l : Lamp) (points : List Point) (k : ℕ) (d : Point) (t : Ends) → points ≡ lamp_points l
    → k < part_count l → IsShare photos greatest l (place_of (slice_index_or points k d)) p face (is_clear room (place_of (slice_index_or points k d)) p) t
    → IsShare photos greatest l (lamp_place l k) p face (is_clear room (lamp_place l k) p) t
share_at photos greatest room p face l points k d t are inside h =
    let there : slice_index_or points k d ≡ point_of (lamp_place l k) = ap (λ (ps : List Point). slice_index_or ps k d) are ∙ lamp_point_at l k d inside in
    let P : Place → Type 0 = λ z. IsShare photos greatest l z p face (is_clear room z p) t in
    subst P (ap (λ (z : Point). place_of z) there) h

-- the light of the marked lamp of number k, where `lamps` are those of the room
pub lamp_there : (photos : List Table) (greatest : ℕ) (room : Room) (p : Place) (lamps : List Lamp) (marked : List ℕ) (k : ℕ) (d : Lamp) (t : Ends) → lamps ≡ room.lamps
    → k < length marked → All (λ i. i < length room.lamps) marked → IsLampLight photos greatest room p Up (slice_index_or lamps (slice_index_or marked k 0) d) t
    → IsLampLight photos greatest room p Up (marked_lamp room marked k) t
lamp_there photos greatest room p lamps marked k d t are inside marks h =
    let below = All-get_or (λ i. i < length room.lamps) marked k 0 inside marks in
    let there : slice_index_or lamps (slice_index_or marked k 0) d ≡ marked_lamp room marked k =
    ap (λ (ls : List Lamp). slice_index_or ls (slice_index_or marked k 0) d) are ∙ get_or_default room.lamps (slice_index_or marked k 0) d no_lamp below in
    let P : Lamp → Type 0 = λ l. IsLampLight photos greatest room p Up l t in
    subst P there h

-- the way is clear where there is no first box
pub clear_if : (none some blocked : Bool) → some ≡ not none → some ≡ blocked → none ≡ not blocked
clear_if true some blocked e f = rw (← f, e) refl
clear_if false some blocked e f = rw (← f, e) refl
