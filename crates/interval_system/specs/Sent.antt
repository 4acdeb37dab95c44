-- What patches send to a place: the sum over a row of weights, each product with the light of its patch rounded outward to a tick.
use Rattle.std.specs.Prelude.{ℕ, ◌*◌, ◌^◌, List, slice_index_or}
use Rattle.fx_base.specs.declared.Tick.{Tick}
use Rattle.fx_base.specs.declared.Weight.{Weight}
use Rattle.fx_base.specs.Rounded.{down_to, up_to}
use Rattle.fx_base.specs.Units.{no_weight}
use Rattle.interval_system.specs.Ticks.{tick_at}
use Rattle.interval_system.specs.Whole.{total}

-- of the first n patches, by the lower ends and by the upper ends
unfoldable pub sent_low : List Weight → List Tick → ℕ → ℕ
sent_low row light n = total n (λ j. down_to (2 ^ 36) ((slice_index_or row j no_weight).lo * tick_at light j))

unfoldable pub sent_high : List Weight → List Tick → ℕ → ℕ
sent_high row light n = total n (λ j. up_to (2 ^ 36) ((slice_index_or row j no_weight).hi * tick_at light j))
