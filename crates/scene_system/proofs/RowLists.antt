-- What lists of rows and of direct light are as a whole.
use Rattle.std.proofs.Common.{ℕ, ◌<◌, ◌≤◌, ◌≡◌, List, [], length, get_or, All, ap, sym, ◌∙◌, arith}
use Rattle.std.proofs.lemmas.List.Elements.{All-from_get_or}
use Rattle.fx_base.specs.Ends.{Ends}
use Rattle.fx_base.specs.declared.Weight.{Weight}
use Rattle.room_layout.specs.Accepted.{IsAccepted}
use Rattle.room_layout.specs.Place.{Place}
use Rattle.room_layout.specs.declared.geometry.Face.{Face}
use Rattle.room_layout.specs.declared.room.Room.{Room}
use Rattle.photo_table.specs.Table.{Table}
use Rattle.patch_mesh.specs.declared.patch.Patch.{Patch}
use Rattle.interval_system.specs.System.{IsDirectLight, IsRow, IsSystem, IsWeight, no_light}
use Rattle.scene_system.specs.Assembled.{Numbers, IsWellFormed, open_points}
use Rattle.scene_system.specs.Parts.{AreLightsAt, ArePatchesOf, AreRowsAt, AreTaskPointsOf, IsRowAt}
use Rattle.scene_system.specs.Scene.{patch_count}

inside : (i m n : ℕ) → m ≡ n → i < m → i < n
inside i m n e h = omega (arith, e, h)

row_is : (row : List Weight) (room : Room) (p : Place) (face : Face) → patch_count room ≤ 2048 → IsRowAt room p face row → IsRow row
row_is row room p face few h = record { few = let e = h.size in omega (arith, e, few); each = h.each }

pub all_rows : (room : Room) (place : ℕ → Place) (face : ℕ → Face) (n : ℕ) (rows : List (List Weight)) → patch_count room ≤ 2048 → AreRowsAt room place face n rows → All IsRow rows
all_rows room place face n rows few h =
    All-from_get_or IsRow rows [] (λ i l. row_is (get_or rows i []) room (place i) (face i) few (h.each i (inside i (length rows) n h.size l)))

all_sizes : (room : Room) (place : ℕ → Place) (face : ℕ → Face) (n m : ℕ) (rows : List (List Weight)) → patch_count room ≡ m → AreRowsAt room place face n rows
    → All (λ row. length row ≡ m) rows
all_sizes room place face n m rows e h = All-from_get_or (λ row. length row ≡ m) rows [] (λ i l. (h.each i (inside i (length rows) n h.size l)).size ∙ e)

all_weights : (room : Room) (place : ℕ → Place) (face : ℕ → Face) (n : ℕ) (rows : List (List Weight)) → AreRowsAt room place face n rows → All (All IsWeight) rows
all_weights room place face n rows h = All-from_get_or (All IsWeight) rows [] (λ i l. (h.each i (inside i (length rows) n h.size l)).each)

all_lights : (photos : List Table) (room : Room) (place : ℕ → Place) (face : ℕ → Face) (n : ℕ) (lights : List Ends) → AreLightsAt photos room place face n lights → All IsDirectLight lights
all_lights photos room place face n lights h = All-from_get_or IsDirectLight lights no_light (λ i l. h.each i (inside i (length lights) n h.size l))

pub is_system : (photos : List Table) (room : Room) (place : ℕ → Place) (face : ℕ → Face) (list : List Patch) (rows : List (List Weight)) (direct : List Ends)
    → ArePatchesOf room list → AreRowsAt room place face (patch_count room) rows → AreLightsAt photos room place face (patch_count room) direct
    → IsSystem (record { rows = rows; direct = direct })
is_system photos room place face list rows direct p r d =
    let few : length list ≤ 2048 = p.few in
    let count : length list ≡ patch_count room = ap length p.are in
    let size = r.size in
    record {
      few = omega (arith, few, count, size);
      square = all_sizes room place face (patch_count room) (length rows) rows (sym size) r;
      weights = all_weights room place face (patch_count room) rows r;
      lights = d.size ∙ sym size;
      light = all_lights photos room place face (patch_count room) direct d;
    }

pub well_formed : (photos : List Table) (room : Room) (s : Numbers) (place : ℕ → Place) (face : ℕ → Face) → IsAccepted room → ArePatchesOf room s.patches → AreTaskPointsOf room s.points
    → 0 < open_points s.points → length s.system.rows ≡ patch_count room → IsSystem s.system
    → AreRowsAt room place face (length s.points) s.point_rows → AreLightsAt photos room place face (length s.points) s.point_direct → IsWellFormed s
well_formed photos room s place face accepted patches points some square system rows lights =
    let count : length s.patches ≡ patch_count room = ap length patches.are in
    let all = points.count in
    let few = accepted.task.points in
    record {
      few_patches = patches.few;
      size = square ∙ sym count;
      system = system;
      few_points = omega (arith, all, few);
      rows = rows.size;
      row_sizes = all_sizes room place face (length s.points) (length s.patches) s.point_rows (sym count) rows;
      weights = all_rows room place face (length s.points) s.point_rows (let fit = patches.few in omega (arith, fit, count)) rows;
      lights = lights.size;
      each_light = all_lights photos room place face (length s.points) s.point_direct lights;
      some_open = some;
    }
