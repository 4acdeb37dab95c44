-- The sizes that the reader holds.
use Rattle.std.specs.Prelude.{◌*◌, ◌^◌, ◌≤◌}
use Rattle.lm63_read.specs.Sizes.{Sizes}
use Rattle.lm63_read.specs.declared.sizes.Sizes.{Sizes as Held}

abbrev pub said : Held → Sizes
said s = record { shift = s.shift; gammas = s.gammas; planes = s.planes; factor = s.factor }

pub record AreSizes (s : Held) : Type 0 where
  pub shift : s.shift ≤ 2002
  pub gammas : (2 ≤ s.gammas) × (s.gammas ≤ 721)
  pub planes : (1 ≤ s.planes) × (s.planes ≤ 721)
  pub factor : s.factor ≤ 2 * 10 ^ 23
