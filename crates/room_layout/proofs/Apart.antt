-- Differences of coordinates and their squares: how large they are, and how far a place is in front of a plane.
use Rattle.std.proofs.Common.{ℕ, ◌+◌, ◌-◌, ◌*◌, ◌≤◌, arith}
use Rattle.std.proofs.Math.Nat.{mul-le-mul}
use Rattle.room_layout.specs.declared.geometry.Face.{Face}
use Rattle.room_layout.specs.declared.geometry.Face.TheVariants.{Up, Down, East, West, North, South}
use Rattle.room_layout.specs.Place.{Place, in_front, apart, squared_distance}

pub square_le : (a b : ℕ) → a ≤ b → a * a ≤ b * b
square_le a b h = mul-le-mul {n₁ = a} {m₁ = a} {n₂ = b} {m₂ = b} h h

pub apart_small : (a b : ℕ) → a ≤ 200000 → b ≤ 200000 → apart a b ≤ 200000
apart_small a b p q = omega arith

pub square_small : (a b : ℕ) → a ≤ 200000 → b ≤ 200000 → apart a b * apart a b ≤ 40000000000
square_small a b p q = square_le (apart a b) 200000 (apart_small a b p q)

pub ruleset squares = (apart_small, square_small)

-- one of three squares is at most their sum
first : (a x y z : ℕ) → a ≤ x → a * a ≤ x * x + y * y + z * z
first a x y z h = omega (arith, square_le a x h)

second : (a x y z : ℕ) → a ≤ y → a * a ≤ x * x + y * y + z * z
second a x y z h = omega (arith, square_le a y h)

third : (a x y z : ℕ) → a ≤ z → a * a ≤ x * x + y * y + z * z
third a x y z h = omega (arith, square_le a z h)

-- the square of a distance in front of a plane is at most that of the whole distance
pub ahead : (f : Face) (p q : Place) → in_front f p q * in_front f p q ≤ squared_distance p q
unfolding in_front squared_distance
ahead Up p q = third (q.z - p.z) (apart p.x q.x) (apart p.y q.y) (apart p.z q.z) (omega arith)
ahead Down p q = third (p.z - q.z) (apart p.x q.x) (apart p.y q.y) (apart p.z q.z) (omega arith)
ahead East p q = first (q.x - p.x) (apart p.x q.x) (apart p.y q.y) (apart p.z q.z) (omega arith)
ahead West p q = first (p.x - q.x) (apart p.x q.x) (apart p.y q.y) (apart p.z q.z) (omega arith)
ahead North p q = second (q.y - p.y) (apart p.x q.x) (apart p.y q.y) (apart p.z q.z) (omega arith)
ahead South p q = second (p.y - q.y) (apart p.x q.x) (apart p.y q.y) (apart p.z q.z) (omega arith)

pub behind : (g : Face) (p q : Place) → in_front g q p * in_front g q p ≤ squared_distance p q
unfolding in_front squared_distance
behind Up p q = third (p.z - q.z) (apart p.x q.x) (apart p.y q.y) (apart p.z q.z) (omega arith)
behind Down p q = third (q.z - p.z) (apart p.x q.x) (apart p.y q.y) (apart p.z q.z) (omega arith)
behind East p q = first (p.x - q.x) (apart p.x q.x) (apart p.y q.y) (apart p.z q.z) (omega arith)
behind West p q = first (q.x - p.x) (apart p.x q.x) (apart p.y q.y) (apart p.z q.z) (omega arith)
behind North p q = second (p.y - q.y) (apart p.x q.x) (apart p.y q.y) (apart p.z q.z) (omega arith)
behind South p q = second (q.y - p.y) (apart p.x q.x) (apart p.y q.y) (apart p.z q.z) (omega arith)
