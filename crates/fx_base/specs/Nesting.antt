-- Enclosures of one number at every depth, each inside the one before.
use Rattle.std.specs.Prelude.{ℕ, suc}
use Rattle.fx_base.specs.Interval.{Interval, InOrder, LiesIn}

-- the enclosures nest, and none is empty
pub record IsNested (at_depth : ℕ → Interval) : Type 0 where
  pub nests : (n : ℕ) → LiesIn (at_depth (suc n)) (at_depth n)
  pub order : (n : ℕ) → InOrder (at_depth n)
