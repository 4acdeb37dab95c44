-- The patches of a room and its task points as lists of what is lit, and rows and light there.
use Rattle.std.proofs.Common.{ℕ, ◌+◌, ◌<◌, ◌≡◌, List, [], ◌∷◌, ◌++◌, All, Vec, length, map, get_or, vec_items, ap, subst, refl, sym, inl, inr, arith, ◌∙◌}
use Rattle.std.proofs.lemmas.Bool.{cases_lt}
use Rattle.std.proofs.lemmas.List.{get_or-map, get_or_default, length-map}
use Rattle.std.proofs.lemmas.List.Elements.{All-get_or, All-push}
use Rattle.fx_base.specs.Ends.{Ends}
use Rattle.fx_base.specs.declared.Weight.{Weight}
use Rattle.room_layout.specs.Place.{Place, place_of}
use Rattle.room_layout.specs.declared.geometry.Face.{Face}
use Rattle.room_layout.specs.declared.geometry.Face.TheVariants.{Up}
use Rattle.room_layout.specs.declared.geometry.Point.{Point}
use Rattle.room_layout.specs.declared.room.Room.{Room}
use Rattle.sight_index.specs.Vantages.{IsVantage}
use Rattle.sight_index.specs.declared.index.SightIndex.{SightIndex}
use Rattle.sight_index.specs.declared.vantage.Vantage.{Vantage}
use Rattle.photo_table.specs.Table.{Table}
use Rattle.patch_mesh.specs.Bounds.{IsPatchIn, IsPointIn, IsTaskPointIn, largest_room}
use Rattle.patch_mesh.specs.TaskPoints.{task_points}
use Rattle.patch_mesh.specs.declared.patch.Patch.{Patch}
use Rattle.patch_mesh.specs.declared.patch.TaskPoint.{TaskPoint}
use Rattle.scene_system.specs.Parts.{AreLightsAt, AreRowsAt, IsDirectFor, IsRowAt}
use Rattle.scene_system.specs.Receivers.{centres, facings, faces_lit, face_lit, no_receiver, place_lit, places_lit, task_places, AreReceiversAt, IsReceiver}
use Rattle.scene_system.specs.Scene.{no_patch, no_task_point, task_point_place}
use Rattle.scene_system.specs.declared.receiver.Lit.TheVariants as on
use Rattle.scene_system.specs.declared.receiver.Receiver.{Receiver}
use Rattle.scene_system.proofs.OneMore.{at_last, before, longer}

-- ---- what is lit

pub receivers_more : (index : SightIndex) (place : ℕ → Place) (face : ℕ → Face) (n : ℕ) (lit : List Receiver) (r : Receiver) → AreReceiversAt index place face n lit
    → IsReceiver index r → place_lit r ≡ place n → face_lit r ≡ face n → AreReceiversAt index place face (n + 1) (lit ++ r ∷ [])
receivers_more index place face n lit r h is at facing = record {
  size = longer lit r n h.size;
  each = All-push (IsReceiver index) lit r h.each is;
  places = λ k l. elim (cases_lt k n) [
    | inl below ↦ ap place_lit (before lit r no_receiver k (let e = h.size in omega (arith, e, below))) ∙ h.places k below
    | inr above ↦ let e : k ≡ n = omega (arith, l, above) in at_last lit r no_receiver n k (λ z. place_lit z ≡ place k) h.size e (at ∙ ap place (sym e))
  ];
  faces = λ k l. elim (cases_lt k n) [
    | inl below ↦ ap face_lit (before lit r no_receiver k (let e = h.size in omega (arith, e, below))) ∙ h.faces k below
    | inr above ↦ let e : k ≡ n = omega (arith, l, above) in at_last lit r no_receiver n k (λ z. face_lit z ≡ face k) h.size e (facing ∙ ap face (sym e))
  ];
}

pub patches_more : (index : SightIndex) (list : List Patch) (n : ℕ) (lit : List Receiver) (v : Vantage) (d : Patch) → AreReceiversAt index (centres list) (facings list) n lit
    → n < length list → All (IsPatchIn largest_room) list → IsVantage index v → v.at ≡ (get_or list n d).centre
    → AreReceiversAt index (centres list) (facings list) (n + 1) (lit ++ record { seen = v; lit = on.Patch (get_or list n d) } ∷ [])
patches_more index list n lit v d h l within seen at =
    let e : get_or list n d ≡ get_or list n no_patch = get_or_default list n d no_patch l in
    receivers_more index (centres list) (facings list) n lit (record { seen = v; lit = on.Patch (get_or list n d) }) h
    (record { vantage = seen; there = (All-get_or (IsPatchIn largest_room) list n d l within, sym at) })
    (ap (λ (p : Point). place_of p) at ∙ ap (λ (p : Patch). place_of p.centre) e) (ap (λ (p : Patch). p.face) e)

pub points_more : (index : SightIndex) (list : List TaskPoint) (n : ℕ) (lit : List Receiver) (v : Vantage) (d : TaskPoint) → AreReceiversAt index (task_places list) (λ _. Up) n lit
    → n < length list → All (IsTaskPointIn largest_room) list → IsVantage index v → v.at ≡ (get_or list n d).at
    → AreReceiversAt index (task_places list) (λ _. Up) (n + 1) (lit ++ record { seen = v; lit = on.Point } ∷ [])
points_more index list n lit v d h l within seen at =
    let e : get_or list n d ≡ get_or list n no_task_point = get_or_default list n d no_task_point l in
    receivers_more index (task_places list) (λ _. Up) n lit (record { seen = v; lit = on.Point }) h
    (record { vantage = seen; there = subst (IsPointIn largest_room) (sym at) (All-get_or (IsTaskPointIn largest_room) list n d l within).at })
    (ap (λ (p : Point). place_of p) at ∙ ap (λ (t : TaskPoint). place_of t.at) e) refl

pub tasks_at : (index : SightIndex) (room : Room) (list : List TaskPoint) (n : ℕ) (lit : List Receiver) → list ≡ task_points room
    → AreReceiversAt index (task_places list) (λ _. Up) n lit → AreReceiversAt index (task_point_place room) (λ _. Up) n lit
tasks_at index room list n lit e h = let P : List TaskPoint → Type 0 = λ l. AreReceiversAt index (task_places l) (λ _. Up) n lit in subst P e h

-- ---- rows

-- the lists that a fill leaves are rows
pub rows_from_lists : {Z : Type 0} (room : Room) (place : ℕ → Place) (face : ℕ → Face) (n : ℕ) (lists : List (Vec Weight Z)) → length lists ≡ n
    → ((k : ℕ) (d : Vec Weight Z) → k < n → IsRowAt room (place k) (face k) (get_or lists k d).items) → AreRowsAt room place face n (map vec_items lists)
rows_from_lists room place face n [] e h = record { size = e; each = λ i l. absurd (omega (arith, e)) }
rows_from_lists room place face n (list ∷ lists) e h = record {
  size = length-map (list ∷ lists) vec_items ∙ e;
  each = λ i l. rw (get_or-map vec_items (list ∷ lists) i list [] (omega (arith, e))) (h i list l);
}

-- ---- from what is lit to places

row_moved : (room : Room) (p q : Place) (f g : Face) (row : List Weight) → p ≡ q → f ≡ g → IsRowAt room p f row → IsRowAt room q g row
row_moved room p q f g row e a h = let P : Place → Type 0 = λ z. IsRowAt room z f row in let Q : Face → Type 0 = λ z. IsRowAt room q z row in subst Q a (subst P e h)

pub rows_placed : (index : SightIndex) (room : Room) (place : ℕ → Place) (face : ℕ → Face) (n : ℕ) (lit : List Receiver) (rows : List (List Weight))
    → AreReceiversAt index place face n lit → AreRowsAt room (places_lit lit) (faces_lit lit) (length lit) rows → AreRowsAt room place face n rows
rows_placed index room place face n lit rows are h = record {
  size = h.size ∙ are.size;
  each = λ i l. row_moved room (places_lit lit i) (place i) (faces_lit lit i) (face i) (get_or rows i []) (are.places i l) (are.faces i l) (h.each i (let e = are.size in omega (arith, e, l)));
}

light_moved : (photos : List Table) (room : Room) (p q : Place) (f g : Face) (d : Ends) → p ≡ q → f ≡ g → IsDirectFor photos room p f d → IsDirectFor photos room q g d
light_moved photos room p q f g d e a h = let P : Place → Type 0 = λ z. IsDirectFor photos room z f d in let Q : Face → Type 0 = λ z. IsDirectFor photos room q z d in subst Q a (subst P e h)

pub lights_placed : (photos : List Table) (index : SightIndex) (room : Room) (place : ℕ → Place) (face : ℕ → Face) (n : ℕ) (lit : List Receiver) (lights : List Ends)
    → AreReceiversAt index place face n lit → AreLightsAt photos room (places_lit lit) (faces_lit lit) (length lit) lights → AreLightsAt photos room place face n lights
lights_placed photos index room place face n lit lights are h = record {
  size = h.size ∙ are.size;
  direct = λ i l. light_moved photos room (places_lit lit i) (place i) (faces_lit lit i) (face i) _ (are.places i l) (are.faces i l) (h.direct i (let e = are.size in omega (arith, e, l)));
  each = λ i l. h.each i (let e = are.size in omega (arith, e, l));
}
