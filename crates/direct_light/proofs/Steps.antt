-- Steps between places, by their coordinates.
use Rattle.std.proofs.Common.{ℕ, zero, suc, ◌+◌, ◌*◌, ◌<◌, ◌≤◌, ◌≡◌, refl, ◌∙◌, arith, ℤ, pos, negsuc, ◌-ℤ◌, ◌≤ℤ◌, unsigned_abs, nat_abs}
use Rattle.std.proofs.lemmas.Int.{ints}
use mir.Syntax.{w32}
use mir.Val.{SFits, of_z, to_z}
use Rattle.std.proofs.lemmas.Int.{to_z-of_z}
use Rattle.room_layout.specs.Place.{Place, apart, squared_distance}
use Rattle.angle_bracket.specs.Direction.{square}
use Rattle.direct_light.specs.Directions.{step_from}

pub coordinate_is : (z : ℤ) → pos 0 ≤ℤ z → pos (nat_abs z) ≡ z
coordinate_is (pos n) h = refl
coordinate_is (negsuc n) h = absurd (omega (arith, ints))

abs_is : (z : ℤ) (a b : ℕ) → z ≡ pos a -ℤ pos b → unsigned_abs z ≡ apart a b
abs_is (pos n) a b e = omega (arith, ints, e)
abs_is (negsuc n) a b e = omega (arith, ints, e)

pub difference_is : (y z : ℤ) → pos 0 ≤ℤ y → pos 0 ≤ℤ z → y -ℤ z ≡ pos (nat_abs y) -ℤ pos (nat_abs z)
difference_is y z g h = rw (coordinate_is y g, coordinate_is z h) refl

-- the length of a difference of coordinates
pub abs_apart : (a b : ℕ) → unsigned_abs (pos a -ℤ pos b) ≡ apart a b
abs_apart a b = abs_is (pos a -ℤ pos b) a b refl

-- of two numbers up to 200,000
pub difference_small : (y z : ℤ) → pos 0 ≤ℤ y → pos 0 ≤ℤ z → y ≤ℤ pos 200000 → z ≤ℤ pos 200000 → unsigned_abs (y -ℤ z) ≤ 200000
difference_small (pos a) (pos b) g h i j = rw (abs_apart a b) (omega (arith, ints))
difference_small (negsuc a) z g h i j = absurd (omega (arith, ints))
difference_small y (negsuc b) g h i j = absurd (omega (arith, ints))

pub ruleset steps = (difference_is, difference_small)

-- ---- the squares of a step

square_apart : (a b : ℕ) → square (pos b -ℤ pos a) ≡ apart b a * apart b a
square_apart a b = rw (abs_apart b a) refl

-- a step between places that are apart leads somewhere
pub somewhere : (q p : Place) → 0 < squared_distance p q → 0 < square (step_from q p).x + square (step_from q p).y + square (step_from q p).z
unfolding squared_distance step_from
somewhere q p h = rw (abs_apart p.x q.x, abs_apart p.y q.y, abs_apart p.z q.z) h

some_square : (a : ℕ) → 0 < a * a → 0 < a
some_square zero h = absurd (omega arith)
some_square (suc a) h = omega arith

pub some_length : (a b c : ℕ) → 0 < a * a + b * b + c * c → 0 < a + b + c
some_length zero zero zero h = absurd (omega arith)
some_length (suc a) b c h = omega arith
some_length zero (suc b) c h = omega arith
some_length zero zero (suc c) h = omega arith

-- what a call has made of a coordinate that was passed as 32 bits
pub passed : (z y : ℤ) → SFits w32 z → z ≡ y → to_z w32 (of_z w32 z) ≡ y
passed z y f e = to_z-of_z w32 z f ∙ e
