-- A room that the layout gives is within every range and limit.
use Rattle.std.proofs.Common.{◌≡◌, ℕ, ◌*◌, ◌<◌, ◌≤◌, ◌&&◌, Bool, true, nat_le, nat_lt, List, [], ◌∷◌, get_or, Option, Some, None, IfSome, Ok, codes, subst, lit<, lit≤, arith}
use Rattle.std.proofs.lemmas.Bool.{and_parts}
use Rattle.std.proofs.lemmas.Bool.Decides.{nat_tests}
use Rattle.toml.specs.Data.{Data, Members, get_member}
use Rattle.room_layout.specs.declared.fault.Key.TheVariants as key
use Rattle.room_layout.specs.declared.fault.Spot.{Spot}
use Rattle.room_layout.specs.declared.fault.RoomFault.TheVariants as fault
use Rattle.room_layout.specs.declared.geometry.Size.{Size}
use Rattle.room_layout.specs.declared.room.Block.{Block}
use Rattle.room_layout.specs.declared.room.TaskGrid.{TaskGrid}
use Rattle.room_layout.specs.declared.room.Limits.{Limits}
use Rattle.room_layout.specs.declared.parts.Shell.{Shell}
use Rattle.room_layout.specs.declared.version.Version.{Version}
use Rattle.room_layout.specs.declared.version.Version.TheVariants.{One, Two}
use Rattle.room_layout.specs.Checks.{demand, spot, required, optional, where_given, number, numbers, table_with}
use Rattle.room_layout.specs.Layout.{longest_edge, size_from, reflects_from, fits_in, is_above, room_keys, shell_of, box_keys, block_from, block_of, task_keys, task_from, is_rising, is_task_inside, task_of, limits_keys, limits_in, limits_of}
use Rattle.room_layout.specs.Accepted.{IsBetween, IsRoomSize, AreReflects, IsBlockIn, IsTaskIn, AreLimits}
use Rattle.room_layout.proofs.Ranges.{bind_ok, ok_same, demand_ok, AreBetween, number_between, required_numbers_between, optional_number_between, optional_numbers_between, no_reflects_between}

-- ---- tests of sizes

pub both : (a b c : Bool) → (a && b && c) ≡ true → (a ≡ true) × (b ≡ true) × (c ≡ true)
both a b c e = let (ab, third) = and_parts (a && b) c e in let (first, second) = and_parts a b ab in (first, second, third)

pub le_from : (a b : ℕ) → nat_le a b ≡ true → a ≤ b
le_from a b e = grind (arith, nat_tests, e)

pub lt_from : (a b : ℕ) → nat_lt a b ≡ true → a < b
lt_from a b e = grind (arith, nat_tests, e)

-- ---- the room's own table

pub record IsShell (s : Shell) : Type 0 where
  pub size : IsRoomSize s.size
  pub reflect : AreReflects s.reflect
  pub patch : IsBetween 50 50000 s.patch

-- in either version an edge is at most 100 m
edge_most : (version : Version) (n : ℕ) → IsBetween 500 (longest_edge version) n → IsBetween 500 100000 n
edge_most One n between = (between.0, omega (arith, between.1))
edge_most Two n between = between

room_size : (version : Version) (ns : List ℕ) → AreBetween 3 500 (longest_edge version) ns → IsRoomSize (size_from ns)
room_size version ns between = record {
  x = edge_most version _ (between.each_one 0 (lit< tt));
  y = edge_most version _ (between.each_one 1 (lit< tt));
  z = edge_most version _ (between.each_one 2 (lit< tt));
}

room_reflects : (ns : List ℕ) → AreBetween 6 0 950 ns → AreReflects (reflects_from ns)
room_reflects ns between = record {
  floor = (between.each_one 0 (lit< tt)).1;
  ceiling = (between.each_one 1 (lit< tt)).1;
  x0 = (between.each_one 2 (lit< tt)).1;
  x1 = (between.each_one 3 (lit< tt)).1;
  y0 = (between.each_one 4 (lit< tt)).1;
  y1 = (between.each_one 5 (lit< tt)).1;
}

pub shell_accepted : (version : Version) (document : Members) (s : Shell) → shell_of version document ≡ Ok s → IsShell s
unfolding shell_of
shell_accepted version document s e =
    let (room, _, e1) = bind_ok (required (spot key.Room 0) (table_with room_keys) (get_member (codes "room") document)) _ s e in
    let (size, sized, e2) = bind_ok (required (spot key.RoomSize 0) (numbers 3 500 (longest_edge version)) (get_member (codes "size") room)) _ s e1 in
    let (reflect, reflected, e3) = bind_ok (optional (0 ∷ 0 ∷ 0 ∷ 0 ∷ 0 ∷ 0 ∷ []) (spot key.RoomReflect 0) (numbers 6 0 950) (get_member (codes "reflect") room)) _ s e2 in
    let (patch, patched, e4) = bind_ok (optional 600 (spot key.RoomPatch 0) (number 50 50000) (get_member (codes "patch") room)) _ s e3 in
    let is : record { version = version; size = size_from size; reflect = reflects_from reflect; patch = patch } ≡ s = ok_same _ s e4 in
    subst IsShell is (record {
      size = room_size version size (required_numbers_between 3 500 (longest_edge version) (spot key.RoomSize 0) (get_member (codes "size") room) size sized);
      reflect = room_reflects reflect (optional_numbers_between _ 6 0 950 (spot key.RoomReflect 0) (get_member (codes "reflect") room) reflect no_reflects_between reflected);
      patch = optional_number_between 600 50 50000 (spot key.RoomPatch 0) (get_member (codes "patch") room) patch (lit≤ tt, lit≤ tt) patched;
    })

-- ---- boxes

above_inside : (room lo hi : Size) (reflect : ℕ) → is_above hi lo ≡ true → fits_in hi room ≡ true → reflect ≤ 950 → IsBlockIn room (record { lo = lo; hi = hi; reflect = reflect })
above_inside room lo hi reflect above inside reflected =
    let (ax, ay, az) = both (nat_lt lo.x hi.x) (nat_lt lo.y hi.y) (nat_lt lo.z hi.z) above in
    let (ix, iy, iz) = both (nat_le hi.x room.x) (nat_le hi.y room.y) (nat_le hi.z room.z) inside in
    record {
      x = (lt_from _ _ ax, le_from _ _ ix);
      y = (lt_from _ _ ay, le_from _ _ iy);
      z = (lt_from _ _ az, le_from _ _ iz);
      reflect = reflected;
    }

pub block_accepted : (room : Shell) (i : ℕ) (d : Data) (b : Block) → block_of room i d ≡ Ok b → IsBlockIn room.size b
unfolding block_of
block_accepted room i d b e =
    let (box, _, e1) = bind_ok (table_with box_keys (spot key.Box i) d) _ b e in
    let (lo, _, e2) = bind_ok (required (spot key.BoxLo i) (numbers 3 0 (longest_edge room.version)) (get_member (codes "lo") box)) _ b e1 in
    let (hi, _, e3) = bind_ok (required (spot key.BoxHi i) (numbers 3 0 (longest_edge room.version)) (get_member (codes "hi") box)) _ b e2 in
    let (reflect, reflected, e4) = bind_ok (optional 0 (spot key.BoxReflect i) (number 0 950) (get_member (codes "reflect") box)) _ b e3 in
    let (u, above, e5) = bind_ok (demand (is_above (size_from hi) (size_from lo)) (fault.Range (spot key.BoxHi i))) _ b e4 in
    let (v, inside, e6) = bind_ok (demand (fits_in (size_from hi) room.size) (fault.Outside (spot key.Box i))) _ b e5 in
    let is : block_from lo hi reflect ≡ b = ok_same _ b e6 in
    subst (IsBlockIn room.size) is
    (above_inside room.size (size_from lo) (size_from hi) reflect (demand_ok _ _ u above) (demand_ok _ _ v inside)
    (optional_number_between 0 0 950 (spot key.BoxReflect i) (get_member (codes "reflect") box) reflect (lit≤ tt, lit≤ tt) reflected).1)

-- ---- the task

grid_inside : (room : Size) (t : TaskGrid) → is_rising t ≡ true → is_task_inside t room ≡ true → nat_le (t.nx * t.ny) 1024 ≡ true → 1 ≤ t.nx → 1 ≤ t.ny → IsTaskIn room t
grid_inside room t above inside few nx ny =
    let (ax, ay) = and_parts (nat_lt t.from_x t.to_x) (nat_lt t.from_y t.to_y) above in
    let (ix, iy, iz) = both (nat_le t.to_x room.x) (nat_le t.to_y room.y) (nat_le t.height room.z) inside in
    record {
      x = (lt_from _ _ ax, le_from _ _ ix);
      y = (lt_from _ _ ay, le_from _ _ iy);
      height = le_from _ _ iz;
      columns = nx;
      rows = ny;
      points = le_from _ _ few;
    }

pub task_accepted : (room : Shell) (document : Members) (t : TaskGrid) → task_of room document ≡ Ok t → IsTaskIn room.size t
unfolding task_of
task_accepted room document t e =
    let (task, _, e1) = bind_ok (required (spot key.Task 0) (table_with task_keys) (get_member (codes "task") document)) _ t e in
    let (from, _, e2) = bind_ok (required (spot key.TaskFrom 0) (numbers 2 0 (longest_edge room.version)) (get_member (codes "from") task)) _ t e1 in
    let (to, _, e3) = bind_ok (required (spot key.TaskTo 0) (numbers 2 0 (longest_edge room.version)) (get_member (codes "to") task)) _ t e2 in
    let (height, _, e4) = bind_ok (required (spot key.TaskHeight 0) (number 0 (longest_edge room.version)) (get_member (codes "height") task)) _ t e3 in
    let (points, pointed, e5) = bind_ok (required (spot key.TaskPoints 0) (numbers 2 1 1024) (get_member (codes "points") task)) _ t e4 in
    let (u, above, e6) = bind_ok (demand (is_rising (task_from from to height points)) (fault.Range (spot key.TaskTo 0))) _ t e5 in
    let (v, inside, e7) = bind_ok (demand (is_task_inside (task_from from to height points) room.size) (fault.Outside (spot key.Task 0))) _ t e6 in
    let (w, few, e8) = bind_ok (demand (nat_le (get_or points 0 0 * get_or points 1 0) 1024) (fault.TooMany (spot key.TaskPoints 0))) _ t e7 in
    let is : task_from from to height points ≡ t = ok_same _ t e8 in
    let between = required_numbers_between 2 1 1024 (spot key.TaskPoints 0) (get_member (codes "points") task) points pointed in
    subst (IsTaskIn room.size) is
    (grid_inside room.size (task_from from to height points) (demand_ok _ _ u above) (demand_ok _ _ v inside) (demand_ok _ _ w few)
    (between.each_one 0 (lit< tt)).0 (between.each_one 1 (lit< tt)).0)

-- ---- limits

given_between : (lo hi : ℕ) (s : Spot) (o : Option Data) (x : Option ℕ) → where_given s (number lo hi) o ≡ Ok x → IfSome x (λ n. n ≤ hi)
given_between lo hi s None x e = let is : None ≡ x = ok_same _ x e in subst (λ v. IfSome v (λ n. n ≤ hi)) is tt
given_between lo hi s (Some d) x e =
    let (n, checked, last) = bind_ok (number lo hi s d) (λ n. Ok (Some n)) x e in
    let is : Some n ≡ x = ok_same _ x last in
    subst (λ v. IfSome v (λ n. n ≤ hi)) is (number_between lo hi s d n checked).1

pub candela_accepted : (i : ℕ) (o : Option Data) (x : Option ℕ) → where_given (spot key.LampCandela i) (number 0 10000000) o ≡ Ok x → IfSome x (λ n. n ≤ 10000000)
candela_accepted i o x e = given_between 0 10000000 _ o x e

limits_in_accepted : (s : Spot) (d : Data) (l : Limits) → limits_in s d ≡ Ok l → AreLimits l
unfolding limits_in
limits_in_accepted s d l e =
    let (limits, _, e1) = bind_ok (table_with limits_keys s d) _ l e in
    let (average, averaged, e2) = bind_ok (where_given (spot key.LimitsAverageMillilux 0) (number 0 1000000000) (get_member (codes "average_millilux") limits)) _ l e1 in
    let (uniformity, uniform, e3) = bind_ok (where_given (spot key.LimitsUniformityPermille 0) (number 0 1000) (get_member (codes "uniformity_permille") limits)) _ l e2 in
    let is : record { average = average; uniformity = uniformity } ≡ l = ok_same _ l e3 in
    subst AreLimits is (record { average = given_between 0 1000000000 (spot key.LimitsAverageMillilux 0) (get_member (codes "average_millilux") limits) average averaged; uniformity = given_between 0 1000 (spot key.LimitsUniformityPermille 0) (get_member (codes "uniformity_permille") limits) uniformity uniform })

limits_at : (o : Option Data) (l : Limits) → optional (record { average = None; uniformity = None }) (spot key.Limits 0) limits_in o ≡ Ok l → AreLimits l
limits_at None l e = let is : record { average = None; uniformity = None } ≡ l = ok_same _ l e in subst AreLimits is (record { average = tt; uniformity = tt })
limits_at (Some d) l e = limits_in_accepted (spot key.Limits 0) d l e

pub limits_accepted : (document : Members) (l : Limits) → limits_of document ≡ Ok l → AreLimits l
unfolding limits_of
limits_accepted document l e = limits_at (get_member (codes "limits") document) l e
