-- The points of a lamp: how large their coordinates are, and their list.
use Rattle.std.proofs.Common.{ℕ, zero, suc, ◌+◌, ◌*◌, ◌/◌, ◌%◌, ◌<◌, ◌≤◌, ◌≡◌, List, [], ◌∷◌, ◌++◌, length, length-append, get_or, inl, inr, refl, ap, ◌∙◌, arith, add-one, pos}
use Rattle.std.proofs.Math.Nat.{mul-le-mul_left, mul-le-mul, mul-div-le, div-le_of_le-mul, lt_of_mul-lt-mul_left, mod-lt}
use Rattle.std.proofs.Math.ListN.{get_or-append}
use Rattle.std.proofs.Math.Seq.{get_or-append_seam}
use Rattle.std.proofs.lemmas.Bool.{cases_lt}
use Rattle.std.specs.Prelude.{slice_index_or}
use Rattle.std.specs.List.{All}
use Rattle.std.proofs.lemmas.List.Elements.{All-nil, All-push, All-same}
use Rattle.room_layout.specs.Accepted.{IsBetween}
use Rattle.room_layout.specs.Across.{across, extent_of, parts_of}
use Rattle.room_layout.specs.Place.{Place, place_of, point_of}
use Rattle.room_layout.specs.Positions.{IsInReach}
use Rattle.room_layout.specs.declared.geometry.Face.{Face}
use Rattle.room_layout.specs.declared.geometry.Face.TheVariants.{Up, Down, East, West, North, South}
use Rattle.room_layout.specs.declared.geometry.Point.{Point}
use Rattle.room_layout.specs.declared.geometry.Size.{Size}
use Rattle.room_layout.specs.declared.room.Lamp.{Lamp}
use Rattle.direct_light.specs.Lamps.{IsLamp, IsPart, first_points, lamp_place, lamp_points, middle_round, part_count, part_of}

-- ---- sizes

-- the middle of a part of an edge lies within it
pub middle_most : (i size parts : ℕ) → i < parts → (2 * i + 1) * size / parts ≤ 2 * size
middle_most i size parts h = div-le_of_le-mul parts (let g : 2 * i + 1 ≤ 2 * parts = omega arith in omega (arith, mul-le-mul_left size g))

pub parts_most : (a b : ℕ) → a ≤ 8 → b ≤ 8 → a * b ≤ 64
parts_most a b g h = mul-le-mul {n₁ = a} {m₁ = b} {n₂ = 8} {m₂ = 8} g h

pub column_below : (k a : ℕ) → 1 ≤ a → k % a < a
column_below k a h = mod-lt k (omega arith)

pub row_below : (k a b : ℕ) → k < a * b → k / a < b
row_below k a b h = lt_of_mul-lt-mul_left a (omega (arith, mul-div-le k a))

pub ruleset middles = (middle_most)

pub ruleset counts = (parts_most)

-- ---- along each axis

-- what holds of a size, a number of parts and a part along both axes across the aim, and along the aim, holds along x, y and z
pub each_axis : (P : ℕ → ℕ → ℕ → Type 0) (aim : Face) (a b c d e f g h i : ℕ) → P a d g → P b e h → P c f i
    → P (across aim a b c).x (across aim d e f).x (across aim g h i).x
    × P (across aim a b c).y (across aim d e f).y (across aim g h i).y
    × P (across aim a b c).z (across aim d e f).z (across aim g h i).z
unfolding across
each_axis P Up a b c d e f g h i first second along = (first, second, along)
each_axis P Down a b c d e f g h i first second along = (first, second, along)
each_axis P East a b c d e f g h i first second along = (along, first, second)
each_axis P West a b c d e f g h i first second along = (along, first, second)
each_axis P North a b c d e f g h i first second along = (first, along, second)
each_axis P South a b c d e f g h i first second along = (first, along, second)

abbrev IsSplit : ℕ → ℕ → ℕ → Type 0
IsSplit size parts i = (size ≤ 5000) × IsBetween 1 8 parts × (i < parts)

split_along : (l : Lamp) (k : ℕ) → IsLamp l → k < part_count l → IsSplit (extent_of l).x (parts_of l).x (part_of l k).x
    × IsSplit (extent_of l).y (parts_of l).y (part_of l k).y × IsSplit (extent_of l).z (parts_of l).z (part_of l k).z
split_along l k is inside = each_axis IsSplit l.aim l.size_x l.size_y 0 l.split_x l.split_y 1 (k % l.split_x) (k / l.split_x) 0
    (is.size_x, is.split_x, column_below k l.split_x is.split_x.0)
    (is.size_y, is.split_y, row_below k l.split_x l.split_y inside)
    (omega arith, (omega arith, omega arith), omega arith)

is_part : (at size parts i : ℕ) → (size ≤ 2 * at) × (2 * at + size ≤ 200000) → IsSplit size parts i → IsPart at size parts i
is_part at size parts i reach split = record { small = split.0; low = reach.0; high = reach.1; few = split.1; one = split.2 }

-- the part along each axis that a point stands in
pub record ArePartsOf (l : Lamp) (extent parts part : Size) : Type 0 where
  pub x : IsPart l.at.x extent.x parts.x part.x
  pub y : IsPart l.at.y extent.y parts.y part.y
  pub z : IsPart l.at.z extent.z parts.z part.z

pub parts_along : (l : Lamp) (k : ℕ) (extent parts part : Size) → IsLamp l → k < part_count l → extent ≡ extent_of l → parts ≡ parts_of l → part ≡ part_of l k
    → ArePartsOf l extent parts part
parts_along l k extent parts part is inside e f g =
    let split = split_along l k is inside in
    rw (e, f, g) (record {
      x = is_part l.at.x (extent_of l).x (parts_of l).x (part_of l k).x is.x split.0;
      y = is_part l.at.y (extent_of l).y (parts_of l).y (part_of l k).y is.y split.1;
      z = is_part l.at.z (extent_of l).z (parts_of l).z (part_of l k).z is.z split.2;
    })

same_point : (p : Point) (a b c : ℕ) → p.x ≡ pos a → p.y ≡ pos b → p.z ≡ pos c → p ≡ record { x = pos a; y = pos b; z = pos c }
same_point p a b c x y z = rw (← x, ← y, ← z) refl

pub point_is : (l : Lamp) (k : ℕ) (extent parts part : Size) (p : Point) → extent ≡ extent_of l → parts ≡ parts_of l → part ≡ part_of l k
    → p.x ≡ pos (middle_round l.at.x extent.x parts.x part.x) → p.y ≡ pos (middle_round l.at.y extent.y parts.y part.y)
    → p.z ≡ pos (middle_round l.at.z extent.z parts.z part.z) → p ≡ point_of (lamp_place l k)
unfolding lamp_place
point_is l k extent parts part p e f g x y z = same_point p (middle_round l.at.x (extent_of l).x (parts_of l).x (part_of l k).x)
    (middle_round l.at.y (extent_of l).y (parts_of l).y (part_of l k).y) (middle_round l.at.z (extent_of l).z (parts_of l).z (part_of l k).z)
    (rw (e, f, g) at x) (rw (e, f, g) at y) (rw (e, f, g) at z)

-- ---- the list grows by one point

-- the first so many points of a lamp, which lie in reach
pub record AreFirst (l : Lamp) (k : ℕ) (points : List Point) : Type 0 where
  pub are : points ≡ first_points l k
  pub within : All IsInReach points

pub first_start : (l : Lamp) (points : List Point) → points ≡ [] → AreFirst l 0 points
unfolding first_points
first_start l points e = record { are = e; within = All-same IsInReach points [] e (All-nil IsInReach) }

pub first_step : (l : Lamp) (k : ℕ) (points new : List Point) (p : Point) → AreFirst l k points → p ≡ point_of (lamp_place l k) → IsInReach p
    → new ≡ points ++ p ∷ [] → AreFirst l (k + 1) new
unfolding first_points
first_step l k points new p so_far is reach pushed = record {
  are = rw (add-one k, ← so_far.are, ← is) pushed;
  within = All-same IsInReach new (points ++ p ∷ []) pushed (All-push IsInReach points p so_far.within reach);
}

-- ---- its points by their numbers

length_first : (l : Lamp) (k : ℕ) → length (first_points l k) ≡ k
unfolding first_points
length_first l zero = refl
length_first l (suc k) = length-append (first_points l k) (point_of (lamp_place l k) ∷ []) ∙ (let h = length_first l k in omega (arith, h))

pub length-lamp_points : (l : Lamp) → length (lamp_points l) ≡ part_count l
length-lamp_points l = length_first l (part_count l)

first_at : (l : Lamp) (n k : ℕ) (d : Point) → k < n → get_or (first_points l n) k d ≡ point_of (lamp_place l k)
unfolding first_points
first_at l zero k d h = absurd (omega arith)
first_at l (suc n) k d h = elim (cases_lt k n) [
  | inl below ↦ get_or-append (first_points l n) (point_of (lamp_place l n) ∷ []) d k (omega (arith, length_first l n)) ∙ first_at l n k d below
  | inr past ↦
      let e : k ≡ length (first_points l n) = omega (arith, length_first l n) in
      let g : n ≡ k = omega arith in
      ap (λ (i : ℕ). get_or (first_points l n ++ point_of (lamp_place l n) ∷ []) i d) e
      ∙ get_or-append_seam (first_points l n) (point_of (lamp_place l n)) [] d ∙ ap (λ (i : ℕ). point_of (lamp_place l i)) g
]

-- point k stands at the place of number k
pub lamp_point_at : (l : Lamp) (k : ℕ) (d : Point) → k < part_count l → slice_index_or (lamp_points l) k d ≡ point_of (lamp_place l k)
lamp_point_at l k d h = first_at l (part_count l) k d h

pub place_of_point : (p : Place) → place_of (point_of p) ≡ p
place_of_point p = refl
