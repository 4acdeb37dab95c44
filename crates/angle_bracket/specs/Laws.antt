-- What holds of the directions' enclosures at every depth.
use Rattle.std.specs.Prelude.{ℕ, ◌+◌, ◌<◌, ℤ}
use Rattle.fx_base.specs.Interval.{InOrder}
use Rattle.angle_bracket.specs.Direction.{square, direction_c, direction_gamma}

-- the ends of C are in order
abbrev pub CIsInOrder : Type 0
CIsInOrder = (n : ℕ) (dx dy : ℤ) (turn : ℕ) → InOrder (direction_c n dx dy turn)

-- and so are those of gamma, where there is a direction
abbrev pub GammaIsInOrder : Type 0
GammaIsInOrder = (n : ℕ) (dx dy dz : ℤ) → 0 < square dx + square dy + square dz → InOrder (direction_gamma n dx dy dz)
