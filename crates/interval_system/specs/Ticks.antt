-- Lists of light, in ticks of 2^-36 lux.
use Rattle.std.specs.Prelude.{ℕ, List, slice_index_or, pos}
use Rattle.fx_base.specs.declared.Tick.{Tick}
use Rattle.fx_base.specs.Units.{natural}

abbrev pub no_tick : Tick
no_tick = record { 0 = pos 0 }

abbrev pub tick_at : List Tick → ℕ → ℕ
tick_at xs i = natural (slice_index_or xs i no_tick).0
