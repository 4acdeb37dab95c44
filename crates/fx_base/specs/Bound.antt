-- The ends of the bounds of a light.
use Rattle.std.specs.Prelude.{◌^◌, pos, ◌≤ℤ◌}
use Rattle.fx_base.specs.declared.tick.Tick.{Tick}

-- from 0 to 2^90 ticks
pub record IsEnd (t : Tick) : Type 0 where
  pub low : pos 0 ≤ℤ t.0
  pub high : t.0 ≤ℤ pos (2 ^ 90)
