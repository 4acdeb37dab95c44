-- Lamps, causes, scenes and row sums of small rooms, computed. The values are worked out by hand; those with pi in them are in the
-- comments.
use Rattle.std.specs.Prelude.{ℕ, ◌≡◌, ◌≤◌, ◌&&◌, nat_lt, List, [], ◌∷◌, None, true, false, refl}
use Rattle.std.proofs.Common.{lit<, lit≤}
use Rattle.fx_base.specs.Fraction.{at_most, lesser, greater, ratio, whole, half_power, ◌≈ᶠ◌, ◌+ᶠ◌, ◌-ᶠ◌, ◌*ᶠ◌, ◌/ᶠ◌, sum_to}
use Rattle.fx_base.specs.Interval.{exact}
use Rattle.fx_base.specs.Units.{millionths}
use Rattle.fx_base.specs.Root.{halved, root}
use Rattle.fx_base.specs.Search.{greatest, root_digits, whole_root}
use Rattle.series_enclose.specs.SeriesTests.{all_series}
use Rattle.series_enclose.specs.Series.{upper_sum, lower_sum, power_over, arctan_term, one_fifth, one_of_239, pi}
use Rattle.room_layout.specs.Across.{across}
use Rattle.room_layout.specs.Place.{Place, in_front, squared_distance, task_place}
use Rattle.room_layout.specs.declared.geometry.Face.TheVariants.{Up, Down, East}
use Rattle.room_layout.specs.declared.room.Block.{Block}
use Rattle.room_layout.specs.declared.room.Lamp.{Lamp}
use Rattle.room_layout.specs.declared.room.Room.{Room}
use Rattle.room_layout.specs.declared.room.Shine.TheVariants.{Even, File}
use Rattle.sight_line.specs.Sight.{meets_box, is_blocked, is_clear}
use Rattle.patch_mesh.specs.Surfaces.{surfaces}
use Rattle.patch_mesh.specs.Patches.{tiling_of, patch_at, tiling_patches, tilings, patches}
use Rattle.patch_mesh.specs.TaskPoints.{task_point, task_points}
use Rattle.patch_mesh.specs.declared.patch.MeshFault.TheVariants as mesh
use Rattle.form_factor.specs.Coefficient.{kernel, fronts, coefficient}
use Rattle.angle_bracket.specs.Direction.{less_angle, plus_angle, quarter_angle, in_quarter, angle_c, less_turn, brought, direction_c, direction_gamma}
use Rattle.photo_table.specs.Angles.{turn_later}
use Rattle.photo_table.specs.Axis.{behind, ahead, between, piece, along, extreme}
use Rattle.photo_table.specs.Hull.{gamma_extreme, plane_extreme, hull}
use Rattle.photo_table.specs.Table.{Table, plane, value, end_at, bilinear}
use Rattle.direct_light.specs.Directions.{framed, step_from}
use Rattle.direct_light.specs.Lamps.{lamp_place}
use Rattle.direct_light.specs.Shares.{falloff, share_of, loosened}
use Rattle.scene_system.specs.Light.{direct_light, loose_direct_light}
use Rattle.scene_system.specs.Scene.{patch_count, patch_place, patch_face, task_point_place, radiosity, loose_radiosity}
use Rattle.scene_system.specs.Assembled.{open_points}
use Rattle.scene_system.specs.Causes.{greatest_of, fault_of_mesh, greatest_total, ticks_of, total_ticks, IsCause, IsWithinLimits}
use Rattle.scene_system.specs.RowSums.{row_sum, slack, in_thousandths}
use Rattle.scene_system.specs.declared.fault.SceneFault.TheVariants.{TotalIntensity, TooManyPatches, NoTaskPoint, Memory}

-- fractions, roots, places and lamps
unfoldable of_light : Unit {0}
unfolding ratio whole half_power ◌+ᶠ◌ ◌-ᶠ◌ ◌*ᶠ◌ ◌/ᶠ◌ sum_to halved root root_digits whole_root in_front squared_distance is_blocked meets_box across lamp_place falloff share_of loosened is_clear
of_light = tt

-- patches and task points
unfoldable of_mesh : Unit {0}
unfolding surfaces across tiling_of patch_at tiling_patches tilings patches task_place task_point task_points
of_mesh = tt

-- tables and directions
unfoldable of_tables : Unit {0}
unfolding all_series lesser greater millionths greatest turn_later behind ahead between piece along extreme plane value end_at bilinear gamma_extreme plane_extreme hull step_from framed
    less_angle plus_angle quarter_angle in_quarter angle_c less_turn brought direction_c direction_gamma
of_tables = tt

-- pi and coefficients
unfoldable of_weights : Unit {0}
unfolding upper_sum lower_sum power_over arctan_term one_fifth one_of_239 pi kernel fronts coefficient
of_weights = tt

-- ---- rooms

abbrev lamp_at : ℕ → ℕ → ℕ → ℕ → Lamp
lamp_at a b c candela = record { at = record { x = a; y = b; z = c }; shine = Even candela; turn = 0; maintenance = 1000; size_x = 0; size_y = 0; split_x = 1; split_y = 1; aim = Down }

-- a cube of this edge and reflectance, with one patch to a face and one task point in the middle of the floor
abbrev cube_of : ℕ → ℕ → List Block → List Lamp → Room
cube_of edge reflect blocks lamps = record {
  size = record { x = edge; y = edge; z = edge };
  reflect = record { floor = reflect; ceiling = reflect; x0 = reflect; x1 = reflect; y0 = reflect; y1 = reflect };
  patch = edge;
  blocks = blocks;
  lamps = lamps;
  files = [];
  task = record { from_x = 0; from_y = 0; to_x = edge; to_y = edge; height = 0; nx = 1; ny = 1 };
  limits = record { average = None; uniformity = None };
}

abbrev box : Block
box = record { lo = record { x = 1000; y = 1000; z = 1000 }; hi = record { x = 2000; y = 2000; z = 2000 }; reflect = 0 }

-- 3 m on each edge with two lamps of 2,500 cd in the middle of the ceiling
abbrev two_lamps : Room
two_lamps = cube_of 3000 0 [] (lamp_at 1500 1500 3000 2500 ∷ lamp_at 1500 1500 3000 2500 ∷ [])

-- the same with a box of 1 m in its middle
abbrev furnished : Room
furnished = cube_of 3000 0 (box ∷ []) (lamp_at 1500 1500 3000 2500 ∷ [])

-- 2 m on each edge, and each surface reflects a half
abbrev cube : Room
cube = cube_of 2000 500 [] (lamp_at 1000 1000 1000 200 ∷ [])

-- a third of a candela in all directions, and 200 candela straight down that are none at the height of the lamp
abbrev third_table : Table
unfolding ratio
third_table = record { planes = 0 ∷ []; gammas = 0 ∷ 180000000 ∷ []; values = exact (ratio 1 3) ∷ exact (ratio 1 3) ∷ [] }

abbrev down_table : Table
unfolding whole
down_table = record { planes = 0 ∷ []; gammas = 0 ∷ 90000000 ∷ []; values = exact (whole 200) ∷ exact (whole 0) ∷ [] }

-- the cube with a lamp of the second of two files
abbrev filed_cube : Room
filed_cube = cube_of 2000 500 [] (record (lamp_at 1000 1000 1000 0) { shine = File 1 } ∷ [])

-- only the ceiling reflects
abbrev bright_ceiling : Room
bright_ceiling = record cube { reflect = record { floor = 0; ceiling = 500; x0 = 0; x1 = 0; y0 = 0; y1 = 0 } }

abbrev floor : Place
floor = record { x = 3000; y = 3000; z = 0 }

abbrev overhead : Place
overhead = record { x = 3000; y = 3000; z = 6000 }

-- ---- sight, and all lamps

through_the_box : is_clear furnished floor overhead ≡ false
unfolding is_clear is_blocked meets_box
through_the_box = refl

along_the_box : is_clear furnished (record { x = 0; y = 2000; z = 3000 }) (record { x = 6000; y = 2000; z = 3000 }) ≡ true
unfolding is_clear is_blocked meets_box
along_the_box = refl

light_through_the_box : (direct_light 0 [] furnished floor Up).hi.num ≡ 0
unfolding of_light
light_through_the_box = refl

-- two lamps of 2,500 cd give what one of 5,000 cd gives
light_of_two : (direct_light 0 [] two_lamps floor Up).hi ≈ᶠ ratio 5000 9
unfolding of_light
light_of_two = record { cross = refl }

-- 5000 / 9 lux lies in the enclosure of depth 2, which is 0.0232 lux wide, and the loose form is wider on both sides
light_at_depth_2 : (at_most (direct_light 2 [] two_lamps floor Up).lo (ratio 5000 9) && at_most (direct_light 2 [] two_lamps floor Up).hi ((direct_light 2 [] two_lamps floor Up).lo +ᶠ ratio 1 40)) ≡ true
unfolding of_light
light_at_depth_2 = refl

loose_light_at_depth_2 : (at_most (loose_direct_light 2 [] two_lamps floor Up).lo (direct_light 2 [] two_lamps floor Up).lo && at_most (direct_light 2 [] two_lamps floor Up).hi (loose_direct_light 2 [] two_lamps floor Up).hi) ≡ true
unfolding of_light
loose_light_at_depth_2 = refl

-- 200 candela straight down at 1 m: the upper end is exact, and the table of the first file has less
light_of_the_second_file : (direct_light 0 (third_table ∷ down_table ∷ []) filed_cube (record { x = 2000; y = 2000; z = 0 }) Up).hi ≈ᶠ whole 200
unfolding of_light of_tables
light_of_the_second_file = record { cross = refl }

-- ---- causes

all_ticks : total_ticks [] two_lamps ≡ 343597383680000
all_ticks = refl

-- a file has the greatest of its table
ticks_of_a_file : ticks_of (third_table ∷ []) (record (lamp_at 0 0 0 0) { shine = File 0 }) ≡ 22906492246
unfolding greatest_of ratio whole
ticks_of_a_file = refl

too_bright : IsCause [] (cube_of 3000 0 [] (lamp_at 0 0 0 6000000 ∷ lamp_at 0 0 0 4000001 ∷ [])) TotalIntensity
too_bright = lit< tt

just_not_too_bright : total_ticks [] (cube_of 3000 0 [] (lamp_at 0 0 0 6000000 ∷ lamp_at 0 0 0 4000000 ∷ [])) ≤ greatest_total
just_not_too_bright = lit≤ tt

-- the task of one point in the middle of the box
abbrev covered : Room
covered = record furnished { task = record { from_x = 1000; from_y = 1000; to_x = 2000; to_y = 2000; height = 1500; nx = 1; ny = 1 } }

none_open : open_points (task_points covered) ≡ 0
unfolding of_mesh
none_open = refl

-- at the height of the box's top the point isn't covered
one_open : open_points (task_points (record covered { task = record { from_x = 1000; from_y = 1000; to_x = 2000; to_y = 2000; height = 2000; nx = 1; ny = 1 } })) ≡ 1
unfolding of_mesh
one_open = refl

no_task_point : IsCause [] covered NoTaskPoint
unfolding of_mesh
no_task_point = (lit≤ tt, lit≤ tt, refl)

cube_within : IsWithinLimits [] cube
unfolding of_mesh
cube_within = record { dim = lit≤ tt; few = lit≤ tt; some_open = lit< tt }

too_many_patches : fault_of_mesh (mesh.TooManyPatches 2049) ≡ TooManyPatches 2049
too_many_patches = refl

no_memory : fault_of_mesh mesh.Memory ≡ Memory
no_memory = refl

-- ---- the scene of the cube

six_patches : patch_count cube ≡ 6
unfolding of_mesh
six_patches = refl

third_patch : patch_place cube 2 ≡ record { x = 0; y = 2000; z = 2000 }
unfolding of_mesh
third_patch = refl

third_face : patch_face cube 2 ≡ East
unfolding of_mesh
third_face = refl

middle_of_the_floor : task_point_place cube 0 ≡ record { x = 2000; y = 2000; z = 0 }
unfolding of_mesh
middle_of_the_floor = refl

-- one metre before the lamp of 200 cd: 200 lux on the floor and at its task point, and 2,000 is a whole root
light_of_the_floor : ((radiosity 0 [] cube).patches.direct 0).hi ≈ᶠ whole 200
unfolding of_light of_mesh
light_of_the_floor = record { cross = refl }

light_of_the_point : ((radiosity 0 [] cube).direct 0).hi ≈ᶠ whole 200
unfolding of_light of_mesh
light_of_the_point = record { cross = refl }

nothing_to_itself : ((radiosity 0 [] cube).patches.coefficient 0 0).hi.num ≡ 0
unfolding of_light of_mesh of_weights
nothing_to_itself = refl

loose_to_itself : ((loose_radiosity 0 [] cube).patches.coefficient 0 0).hi ≈ᶠ half_power 32
unfolding of_light of_mesh of_weights
loose_to_itself = record { cross = refl }

-- patch j lights patch i by the reflectance of j: the floor has light of the bright ceiling, and the ceiling none of the dark floor
floor_of_the_ceiling : nat_lt 0 ((radiosity 0 [] bright_ceiling).patches.coefficient 0 1).lo.num ≡ true
unfolding of_light of_mesh of_weights
floor_of_the_ceiling = refl

ceiling_of_the_floor : ((radiosity 0 [] bright_ceiling).patches.coefficient 1 0).hi.num ≡ 0
unfolding of_light of_mesh of_weights
ceiling_of_the_floor = refl

-- floor and ceiling at depth 0, where pi is 3.140596.. to 3.183263..: 1 / (2 (pi + 1)) from 0.1195239 to 0.1207556
floor_and_ceiling : (at_most (ratio 119523 1000000) ((radiosity 0 [] cube).patches.coefficient 0 1).lo && at_most ((radiosity 0 [] cube).patches.coefficient 0 1).lo (ratio 119524 1000000)
    && at_most (ratio 120755 1000000) ((radiosity 0 [] cube).patches.coefficient 0 1).hi && at_most ((radiosity 0 [] cube).patches.coefficient 0 1).hi (ratio 120756 1000000)) ≡ true
unfolding of_light of_mesh of_weights
floor_and_ceiling = refl

-- the task point on the floor's centre has the floor's coefficients
point_and_ceiling : (at_most (ratio 119523 1000000) ((radiosity 0 [] cube).coefficient 0 1).lo && at_most ((radiosity 0 [] cube).coefficient 0 1).hi (ratio 120756 1000000)) ≡ true
unfolding of_light of_mesh of_weights
point_and_ceiling = refl

-- ---- row sums

-- (1 / (pi + 1) + 4 / (pi + 2)) / 2 is 0.509711.., and at depth 0 from 0.505381 to 0.509816
row_of_the_floor : (at_most (ratio 505381 1000000) (row_sum 0 cube 0).lo && at_most (row_sum 0 cube 0).lo (ratio 505382 1000000)
    && at_most (ratio 509815 1000000) (row_sum 0 cube 0).hi && at_most (row_sum 0 cube 0).hi (ratio 509816 1000000)) ≡ true
unfolding of_light of_mesh of_weights
row_of_the_floor = refl

slack_of_six : slack cube ≈ᶠ ratio 6 4294967296
unfolding of_light of_mesh
slack_of_six = record { cross = refl }

one_in_thousandths : in_thousandths 68719476736 ≡ 1000
one_in_thousandths = refl

-- a tick more is a thousandth more
above_one_in_thousandths : in_thousandths 68719476737 ≡ 1001
above_one_in_thousandths = refl

-- 255/256 is 0.99609..
most_in_thousandths : in_thousandths 68451041280 ≡ 997
most_in_thousandths = refl
