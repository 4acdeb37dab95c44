-- The frame of an aim: a step is as long in it as along the axes of the room.
use Rattle.std.proofs.Common.{ℕ, zero, suc, ◌+◌, ◌<◌, ◌≡◌, refl, arith, ℤ, pos, negsuc, neg_ℤ, unsigned_abs}
use Rattle.room_layout.specs.Place.{Place, squared_distance}
use Rattle.room_layout.specs.declared.geometry.Face.{Face}
use Rattle.room_layout.specs.declared.geometry.Face.TheVariants.{Up, Down, East, West, North, South}
use Rattle.room_layout.specs.declared.room.Lamp.{Lamp}
use Rattle.angle_bracket.specs.Direction.{square}
use Rattle.direct_light.specs.Directions.{Step, framed, step_from, step_towards}
use Rattle.direct_light.proofs.Steps.{some_length, somewhere}

pub abs_of_neg : (z : ℤ) → unsigned_abs (neg_ℤ z) ≡ unsigned_abs z
abs_of_neg (pos zero) = refl
abs_of_neg (pos (suc n)) = refl
abs_of_neg (negsuc n) = refl

pub ruleset turns = (abs_of_neg)

-- a step with these coordinates in the frame
pub same_frame : (aim : Face) (x y z : ℤ) (s : Step) → x ≡ s.x → y ≡ s.y → z ≡ s.z → framed aim (record { x = x; y = y; z = z }) ≡ framed aim s
same_frame aim x y z s ex ey ez = rw (ex, ey, ez) refl

-- the sum of the squares
abbrev long : Step → ℕ
long s = square s.x + square s.y + square s.z

as_long : (aim : Face) (s : Step) → long (framed aim s) ≡ long s
unfolding framed
as_long Down s = refl
as_long Up s = rw (abs_of_neg s.y, abs_of_neg s.z) refl
as_long East s = rw (abs_of_neg s.z, abs_of_neg s.x) (omega arith)
as_long West s = omega arith
as_long North s = rw (abs_of_neg s.y) (omega arith)
as_long South s = rw (abs_of_neg s.z) (omega arith)

-- a step between places that are apart leads somewhere in the frame too
pub somewhere_towards : (l : Lamp) (q p : Place) → 0 < squared_distance p q → 0 < long (step_towards l q p)
somewhere_towards l q p h = rw (as_long l.aim (step_from q p)) (somewhere q p h)

pub some_step_at : (l : Lamp) (q p : Place) (x y z : ℤ) → x ≡ (step_towards l q p).x → y ≡ (step_towards l q p).y → z ≡ (step_towards l q p).z → 0 < squared_distance p q
    → 0 < unsigned_abs x + unsigned_abs y + unsigned_abs z
some_step_at l q p x y z ex ey ez h = rw (ex, ey, ez)
    (some_length (unsigned_abs (step_towards l q p).x) (unsigned_abs (step_towards l q p).y) (unsigned_abs (step_towards l q p).z) (somewhere_towards l q p h))
