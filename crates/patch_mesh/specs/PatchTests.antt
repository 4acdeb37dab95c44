-- Patches and task points of small rooms, computed.
use Rattle.std.specs.Prelude.{ℕ, ◌≡◌, refl, List, [], ◌∷◌, None, map, length, nat_abs, true, false}
use Rattle.std.specs.List.{flat_map}
use Rattle.room_layout.specs.Across.{across}
use Rattle.room_layout.specs.Place.{point_of}
use Rattle.room_layout.specs.declared.geometry.Face.TheVariants.{Up, Down, East, West, North, South}
use Rattle.room_layout.specs.declared.room.Room.{Room}
use Rattle.room_layout.specs.declared.room.Block.{Block}
use Rattle.room_layout.specs.declared.room.TaskGrid.{TaskGrid}
use Rattle.patch_mesh.specs.declared.patch.Patch.{Patch}
use Rattle.patch_mesh.specs.declared.patch.TaskPoint.{TaskPoint}
use Rattle.patch_mesh.specs.Cuts.{parts, cut, below}
use Rattle.patch_mesh.specs.Surfaces.{at, block_surfaces, surfaces}
use Rattle.patch_mesh.specs.Patches.{tiling_of, patch_at, tiling_patches, tilings, patches}
use Rattle.patch_mesh.specs.TaskPoints.{task_point, task_points}
use Rattle.room_layout.specs.Place.{task_place}

-- 1,000 mm in parts of at most 300 mm: four of 250
four_parts : map (cut 1000 (parts 300 1000)) (below 5) ≡ 0 ∷ 250 ∷ 500 ∷ 750 ∷ 1000 ∷ []
four_parts = refl

-- 1,000 mm in parts of at most 350 mm: 333, 333 and 334
three_parts : map (cut 1000 (parts 350 1000)) (below 4) ≡ 0 ∷ 333 ∷ 666 ∷ 1000 ∷ []
three_parts = refl

abbrev room_on : TaskGrid → ℕ → ℕ → ℕ → ℕ → List Block → Room
room_on task x y z longest blocks = record {
  size = at x y z;
  reflect = record { floor = 10; ceiling = 20; x0 = 30; x1 = 40; y0 = 50; y1 = 60 };
  patch = longest;
  blocks = blocks;
  lamps = [];
  files = [];
  task = task;
  limits = record { average = None; uniformity = None };
}

-- two task points side by side at 750 mm
abbrev room_with : ℕ → ℕ → ℕ → ℕ → List Block → Room
room_with x y = room_on (record { from_x = 0; from_y = 0; to_x = x; to_y = y; height = 750; nx = 2; ny = 1 }) x y

unfoldable all : Unit {0}
unfolding surfaces across tiling_of patch_at tiling_patches tilings patches task_place task_point task_points
all = tt

-- the six patches of a cube of 2 m: each in the middle of its face, of 4 square metres
cube : patches (room_with 2000 2000 2000 2000 []) ≡
    record { centre = point_of (record { x = 2000; y = 2000; z = 0 }); face = Up; area = 4000000; reflect = 10 }
    ∷ record { centre = point_of (record { x = 2000; y = 2000; z = 4000 }); face = Down; area = 4000000; reflect = 20 }
    ∷ record { centre = point_of (record { x = 0; y = 2000; z = 2000 }); face = East; area = 4000000; reflect = 30 }
    ∷ record { centre = point_of (record { x = 4000; y = 2000; z = 2000 }); face = West; area = 4000000; reflect = 40 }
    ∷ record { centre = point_of (record { x = 2000; y = 0; z = 2000 }); face = North; area = 4000000; reflect = 50 }
    ∷ record { centre = point_of (record { x = 2000; y = 4000; z = 2000 }); face = South; area = 4000000; reflect = 60 }
    ∷ []
unfolding all
cube = refl

abbrev centre_and_area : Patch → List ℕ
centre_and_area p = nat_abs p.centre.x ∷ nat_abs p.centre.y ∷ p.area ∷ []

-- a floor of 1,000 by 500 mm with parts of at most 350: columns of 333, 333 and 334, rows of 250; row by row
floor : map centre_and_area (tiling_patches (tiling_of 350 (record { face = Up; lo = at 0 0 0; hi = at 1000 500 0; reflect = 0 }))) ≡
    (333 ∷ 250 ∷ 83250 ∷ []) ∷ (999 ∷ 250 ∷ 83250 ∷ []) ∷ (1666 ∷ 250 ∷ 83500 ∷ [])
    ∷ (333 ∷ 750 ∷ 83250 ∷ []) ∷ (999 ∷ 750 ∷ 83250 ∷ []) ∷ (1666 ∷ 750 ∷ 83500 ∷ []) ∷ []
unfolding all
floor = refl

-- two points on a table of 1 m by 1 m by 800 mm in the left half of the room: the first lies inside of it, the second beside
covered : map (λ (p : TaskPoint). p.covered) (task_points (room_with 2000 1000 2000 2000 (record { lo = at 0 0 0; hi = at 1000 1000 800; reflect = 0 } ∷ []))) ≡ true ∷ false ∷ []
unfolding all
covered = refl

-- a task point at the height of the top of a box is not in its inside
on_top : map (λ (p : TaskPoint). p.covered) (task_points (room_with 2000 1000 2000 2000 (record { lo = at 0 0 0; hi = at 1000 1000 750; reflect = 0 } ∷ []))) ≡ false ∷ false ∷ []
unfolding all
on_top = refl

-- ---- walls and boxes

abbrev centre_of : Patch → List ℕ
centre_of p = nat_abs p.centre.x ∷ nat_abs p.centre.y ∷ nat_abs p.centre.z ∷ p.area ∷ []

-- the west wall of a room 900 mm long, 1,000 mm wide and 500 mm high: along y, then up
west_wall : map centre_of (tiling_patches (tiling_of 350 (record { face = West; lo = at 900 0 0; hi = at 900 1000 500; reflect = 0 }))) ≡
    (1800 ∷ 333 ∷ 250 ∷ 83250 ∷ []) ∷ (1800 ∷ 999 ∷ 250 ∷ 83250 ∷ []) ∷ (1800 ∷ 1666 ∷ 250 ∷ 83500 ∷ [])
    ∷ (1800 ∷ 333 ∷ 750 ∷ 83250 ∷ []) ∷ (1800 ∷ 999 ∷ 750 ∷ 83250 ∷ []) ∷ (1800 ∷ 1666 ∷ 750 ∷ 83500 ∷ []) ∷ []
unfolding all
west_wall = refl

-- a wall at its far end, 1,000 mm long: along x, then up
south_wall : map centre_of (tiling_patches (tiling_of 600 (record { face = South; lo = at 0 900 0; hi = at 1000 900 700; reflect = 0 }))) ≡
    (500 ∷ 1800 ∷ 350 ∷ 175000 ∷ []) ∷ (1500 ∷ 1800 ∷ 350 ∷ 175000 ∷ [])
    ∷ (500 ∷ 1800 ∷ 1050 ∷ 175000 ∷ []) ∷ (1500 ∷ 1800 ∷ 1050 ∷ 175000 ∷ []) ∷ []
unfolding all
south_wall = refl

-- a box of 200 by 300 by 400 mm, each side one patch that faces outward
box_sides : flat_map tiling_patches (map (tiling_of 400) (block_surfaces (record { lo = at 100 200 50; hi = at 300 500 450; reflect = 70 }))) ≡
    record { centre = point_of (record { x = 400; y = 700; z = 100 }); face = Down; area = 60000; reflect = 70 }
    ∷ record { centre = point_of (record { x = 400; y = 700; z = 900 }); face = Up; area = 60000; reflect = 70 }
    ∷ record { centre = point_of (record { x = 200; y = 700; z = 500 }); face = West; area = 120000; reflect = 70 }
    ∷ record { centre = point_of (record { x = 600; y = 700; z = 500 }); face = East; area = 120000; reflect = 70 }
    ∷ record { centre = point_of (record { x = 400; y = 400; z = 500 }); face = South; area = 80000; reflect = 70 }
    ∷ record { centre = point_of (record { x = 400; y = 1000; z = 500 }); face = North; area = 80000; reflect = 70 }
    ∷ []
unfolding all
box_sides = refl

-- 52 parts of the surfaces of the room, 2 * (4 * 3 + 4 * 2 + 3 * 2), and 6 of the box after them (Python: sum of ceil(l / p) products)
room_and_box : length (patches (room_with 1000 700 500 300 (record { lo = at 100 200 50; hi = at 300 500 350; reflect = 70 } ∷ []))) ≡ 58
unfolding all
room_and_box = refl

-- ---- task points

abbrev place_of_task : TaskPoint → List ℕ
place_of_task p = nat_abs p.at.x ∷ nat_abs p.at.y ∷ nat_abs p.at.z ∷ []

-- three columns on 2,000 mm and two rows from 500 to 1,001 mm: (2 i + 1) * 2000 / 3 and 1000 + (2 j + 1) * 501 / 2, rounded down
six_points : map place_of_task (task_points (room_on (record { from_x = 0; from_y = 500; to_x = 2000; to_y = 1001; height = 750; nx = 3; ny = 2 }) 2000 2000 2000 2000 [])) ≡
    (666 ∷ 1250 ∷ 1500 ∷ []) ∷ (2000 ∷ 1250 ∷ 1500 ∷ []) ∷ (3333 ∷ 1250 ∷ 1500 ∷ [])
    ∷ (666 ∷ 1751 ∷ 1500 ∷ []) ∷ (2000 ∷ 1751 ∷ 1500 ∷ []) ∷ (3333 ∷ 1751 ∷ 1500 ∷ []) ∷ []
unfolding all
six_points = refl
