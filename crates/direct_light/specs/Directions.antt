-- The direction in which a lamp's point is seen, and the intensity of its table there.
use Rattle.std.specs.Prelude.{ℕ, ℤ, pos, ◌-ℤ◌, neg_ℤ}
use Rattle.fx_base.specs.Fraction.{Fraction, ratio, half_power}
use Rattle.fx_base.specs.Interval.{Interval, outward}
use Rattle.room_layout.specs.Place.{Place}
use Rattle.room_layout.specs.declared.geometry.Face.{Face}
use Rattle.room_layout.specs.declared.geometry.Face.TheVariants.{Up, Down, East, West, North, South}
use Rattle.room_layout.specs.declared.room.Lamp.{Lamp}
use Rattle.angle_bracket.specs.Direction.{direction_c, direction_gamma}
use Rattle.photo_table.specs.Hull.{hull}
use Rattle.photo_table.specs.Laws.{loose_c, loose_gamma}
use Rattle.photo_table.specs.Table.{Table}

-- ---- from the lamp's point q to the place p, in half mm

pub record Step : Type 0 where
  pub x : ℤ
  pub y : ℤ
  pub z : ℤ

unfoldable pub step_from : Place → Place → Step
step_from q p = record { x = pos p.x -ℤ pos q.x; y = pos p.y -ℤ pos q.y; z = pos p.z -ℤ pos q.z }

-- along the axes of a lamp with this aim: x towards the half-plane C 0 of a lamp without a turn, y to where C grows, and z against
-- the aim. The frame of a lamp that hangs is that of the room.
unfoldable pub framed : Face → Step → Step
framed Down s = s
framed Up s = record { x = s.x; y = neg_ℤ s.y; z = neg_ℤ s.z }
framed East s = record { x = s.y; y = neg_ℤ s.z; z = neg_ℤ s.x }
framed West s = record { x = s.y; y = s.z; z = s.x }
framed North s = record { x = s.x; y = s.z; z = neg_ℤ s.y }
framed South s = record { x = s.x; y = neg_ℤ s.z; z = s.y }

abbrev pub step_towards : Lamp → Place → Place → Step
step_towards l q p = framed l.aim (step_from q p)

-- ---- its angles at depth n

abbrev pub c_towards : ℕ → Lamp → Place → Place → Interval
c_towards n l q p = direction_c n (step_towards l q p).x (step_towards l q p).y l.turn

abbrev pub gamma_towards : ℕ → Lamp → Place → Place → Interval
gamma_towards n l q p = direction_gamma n (step_towards l q p).x (step_towards l q p).y (step_towards l q p).z

-- ---- the intensity of the table there, in candela

abbrev pub seen : ℕ → Table → Lamp → Place → Place → Interval
seen n t l q p = hull t (c_towards n l q p) (gamma_towards n l q p)

-- the width of the angles' brackets, in degrees
abbrev pub bracket_width : Fraction
bracket_width = ratio 1 4000

-- the loose form: over brackets so much wider at both ends, and then 2^-30 cd further out
abbrev pub loose_seen : ℕ → Table → Lamp → Place → Place → Interval
loose_seen n t l q p = outward (half_power 30) (hull t (loose_c bracket_width (c_towards n l q p)) (loose_gamma bracket_width (gamma_towards n l q p)))
