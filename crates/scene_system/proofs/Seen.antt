-- Places in the room of an index, and vantages there.
use Rattle.std.proofs.Common.{ℕ, zero, suc, Bool, true, inl, inr, ◌+◌, ◌/◌, ◌%◌, ◌<◌, ◌≤◌, ◌≡◌, ◌++◌, List, [], ◌∷◌, All, length, get_or, take, refl, sym, ap, subst, arith, ◌∙◌}
use Rattle.std.proofs.lemmas.Bool.{cases_lt}
use Rattle.std.proofs.lemmas.Int.{ints}
use Rattle.std.proofs.lemmas.List.{get_or_default, map-append, take_more}
use Rattle.std.proofs.lemmas.List.Elements.{All-nil, All-push}
use Rattle.fx_base.specs.declared.weight.Weight.{Weight}
use Rattle.room_layout.specs.Accepted.{IsLampIn}
use Rattle.room_layout.specs.Across.{extent_of, parts_of}
use Rattle.room_layout.specs.Place.{Place, point_of}
use Rattle.room_layout.specs.Positions.{IsInReach}
use Rattle.room_layout.specs.declared.geometry.Face.{Face}
use Rattle.room_layout.specs.declared.geometry.Point.{Point}
use Rattle.room_layout.specs.declared.geometry.Size.{Size}
use Rattle.room_layout.specs.declared.room.Block.{Block}
use Rattle.room_layout.specs.declared.room.Lamp.{Lamp}
use Rattle.room_layout.specs.declared.room.Room.{Room}
use Rattle.sight_line.specs.Sight.{is_blocked, is_clear}
use Rattle.sight_index.specs.Cells.{IsPointIn}
use Rattle.sight_index.specs.Index.{size_of}
use Rattle.sight_index.specs.Vantages.{IsVantage}
use Rattle.sight_index.specs.declared.index.SightIndex.{SightIndex}
use Rattle.sight_index.specs.declared.vantage.Vantage.{Vantage}
use Rattle.patch_mesh.specs.declared.patch.Patch.{Patch}
use Rattle.form_factor.specs.Weights.{IsCoefficient}
use Rattle.direct_light.specs.Lamps.{first_points, lamp_place, lamp_points, part_count, part_of}
use Rattle.direct_light.proofs.PointLists.{column_below, each_axis, middle_most, row_below}
use Rattle.scene_system.specs.Light.{no_lamp}
use Rattle.scene_system.specs.Parts.{ArePatchesOf}
use Rattle.scene_system.specs.Positions.{ArePointsOfFirst}
use Rattle.scene_system.specs.Receivers.{no_receiver, place_lit, AreReceiversAt}
use Rattle.scene_system.specs.Scene.{no_patch, patch_count, patch_face, patch_of, patch_place}
use Rattle.scene_system.specs.Sight.{AreVantagesOf, IsIndexed, at_of}
use Rattle.scene_system.specs.declared.lamps.LampPoints.{LampPoints}
use Rattle.scene_system.specs.declared.receiver.Receiver.{Receiver}
use Rattle.scene_system.proofs.OneMore.{at_last, before, longer}

-- ---- in the room of the index

reach_of : (room : Room) (index : SightIndex) (p : Point) → IsIndexed room index → IsPointIn (size_of index) p → IsInReach p
reach_of room index p is within =
    let inside : IsPointIn room.size p = let P : Size → Type 0 = λ s. IsPointIn s p in subst P is.boxes.size within in
    let size = is.accepted.size in
    record {
      x = record { least = inside.x.0; most = let a = size.x in let b = inside.x in omega (arith, ints, a, b) };
      y = record { least = inside.y.0; most = let a = size.y in let b = inside.y in omega (arith, ints, a, b) };
      z = record { least = inside.z.0; most = let a = size.z in let b = inside.z in omega (arith, ints, a, b) };
    }

pub vantage_in_reach : (room : Room) (index : SightIndex) (v : Vantage) → IsIndexed room index → IsVantage index v → IsInReach v.at
vantage_in_reach room index v is seen = reach_of room index v.at is seen.within

-- the vantages of one point more
pub vantages_more : (index : SightIndex) (points : List Point) (n : ℕ) (seen : List Vantage) (v : Vantage) (d : Point) → AreVantagesOf index (take n points) seen → n < length points
    → IsVantage index v → v.at ≡ get_or points n d → AreVantagesOf index (take (n + 1) points) (seen ++ v ∷ [])
vantages_more index points n seen v d h l is at = record {
  are = map-append at_of seen (v ∷ []) ∙ ap (λ (ps : List Point). ps ++ v.at ∷ []) h.are ∙ ap (λ (p : Point). take n points ++ p ∷ []) at ∙ sym (take_more points n d l);
  each = All-push (IsVantage index) seen v h.each is;
}

-- ---- a room without boxes

pub clear_of_none : (room : Room) (blocks : List Block) (p q : Place) → room.blocks ≡ blocks → length blocks ≡ 0 → is_clear room p q ≡ true
unfolding is_clear is_blocked
clear_of_none room [] p q e none = rw e refl
clear_of_none room (b ∷ more) p q e none = absurd (omega (arith, none))

-- ---- the points of a lamp

-- the part along each axis that point k stands in is one of them
part_inside : (l : Lamp) (k : ℕ) → 1 ≤ l.split_x → k < part_count l
    → ((part_of l k).x < (parts_of l).x) × ((part_of l k).y < (parts_of l).y) × ((part_of l k).z < (parts_of l).z)
part_inside l k some inside = each_axis (λ size parts i. i < parts) l.aim l.size_x l.size_y 0 l.split_x l.split_y 1 (k % l.split_x) (k / l.split_x) 0
    (column_below k l.split_x some) (row_below k l.split_x l.split_y inside) (omega arith)

lamp_place_in : (size : Size) (files : ℕ) (l : Lamp) (k : ℕ) → IsLampIn size files l → k < part_count l → IsPointIn size (point_of (lamp_place l k))
unfolding lamp_place
lamp_place_in size files l k is inside =
    let one = part_inside l k is.split_x.0 inside in
    let x = middle_most (part_of l k).x (extent_of l).x (parts_of l).x one.0 in
    let y = middle_most (part_of l k).y (extent_of l).y (parts_of l).y one.1 in
    let z = middle_most (part_of l k).z (extent_of l).z (parts_of l).z one.2 in
    record {
      x = let margin = is.x.1 in omega (arith, ints, x, margin);
      y = let margin = is.y.1 in omega (arith, ints, y, margin);
      z = let margin = is.z.1 in omega (arith, ints, z, margin);
    }

first_points_in : (size : Size) (files : ℕ) (l : Lamp) (n : ℕ) → IsLampIn size files l → n ≤ part_count l → All (IsPointIn size) (first_points l n)
unfolding first_points
first_points_in size files l zero is few = All-nil (IsPointIn size)
first_points_in size files l (suc n) is few =
    All-push (IsPointIn size) (first_points l n) (point_of (lamp_place l n)) (first_points_in size files l n is (omega (arith, few))) (lamp_place_in size files l n is (omega (arith, few)))

pub lamp_points_in : (room : Room) (index : SightIndex) (files : ℕ) (l : Lamp) (points : List Point) → IsIndexed room index → IsLampIn room.size files l → points ≡ lamp_points l
    → All (IsPointIn (size_of index)) points
lamp_points_in room index files l points is lamp are =
    let P : Size → Type 0 = λ s. All (IsPointIn s) points in
    let within : All (IsPointIn room.size) points = rw are (first_points_in room.size files l (part_count l) lamp (omega arith)) in
    subst P (sym is.boxes.size) within

-- ---- patches and vantages by their numbers

pub patch_there : (room : Room) (list : List Patch) (j : ℕ) (d : Patch) → ArePatchesOf room list → j < length list → get_or list j d ≡ patch_of room j
patch_there room list j d are l = get_or_default list j d no_patch l ∙ ap (λ (ps : List Patch). get_or ps j no_patch) are.are

pub seen_there : (index : SightIndex) (room : Room) (list : List Patch) (lit : List Receiver) (j : ℕ) (d : Receiver) → ArePatchesOf room list → j < length list
    → AreReceiversAt index (patch_place room) (patch_face room) (patch_count room) lit → place_lit (get_or lit j d) ≡ patch_place room j
seen_there index room list lit j d are l at =
    let count : length list ≡ patch_count room = ap length are.are in
    let size = at.size in
    ap place_lit (get_or_default lit j d no_receiver (omega (arith, count, size, l))) ∙ at.places j (omega (arith, count, l))

-- ---- what is known of them by their numbers in the lists

pub open_there : (room : Room) (list : List Patch) (j : ℕ) (d : Patch) (p : Place) (face : Face) (w : Weight) → ArePatchesOf room list → j < length list
    → IsCoefficient p face (get_or list j d) true w → IsCoefficient p face (patch_of room j) true w
open_there room list j d p face w are l h = let P : Patch → Type 0 = λ b. IsCoefficient p face b true w in subst P (patch_there room list j d are l) h

pub way_there : (index : SightIndex) (room : Room) (list : List Patch) (lit : List Receiver) (j : ℕ) (d : Receiver) (p : Place) (clear : Bool) → ArePatchesOf room list → j < length list
    → AreReceiversAt index (patch_place room) (patch_face room) (patch_count room) lit → clear ≡ is_clear room p (place_lit (get_or lit j d)) → is_clear room p (patch_place room j) ≡ clear
way_there index room list lit j d p clear are l at h = sym (h ∙ ap (λ (q : Place). is_clear room p q) (seen_there index room list lit j d are l at))

-- ---- the points of one lamp more

pub lamps_more : (room : Room) (index : SightIndex) (n : ℕ) (all : List LampPoints) (x : LampPoints) → ArePointsOfFirst room index n all
    → AreVantagesOf index (lamp_points (get_or room.lamps n no_lamp)) x.points.items → ArePointsOfFirst room index (n + 1) (all ++ x ∷ [])
lamps_more room index n all x h is = record {
  size = longer all x n h.size;
  each = λ k d l. elim (cases_lt k n) [
    | inl below ↦ rw (before all x d k (let e = h.size in omega (arith, e, below))) (h.each k d (let e = h.size in omega (arith, e, below)))
    | inr above ↦
        let e : k ≡ n = let size = h.size in let more = longer all x n size in omega (arith, l, above, more) in
        at_last all x d n k (λ z. AreVantagesOf index (lamp_points (get_or room.lamps k no_lamp)) z.points.items) h.size e (rw e is)
  ];
}
