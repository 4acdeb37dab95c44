-- What patches send to a place, as far as a loop has come.
use Rattle.std.proofs.Common.{ℕ, ◌+◌, ◌*◌, ◌≡◌, List, add-one, refl}
use Rattle.std.specs.Prelude.{slice_index_or}
use Rattle.fx_base.specs.Rounded.{down_to, up_to}
use Rattle.fx_base.specs.Units.{no_weight}
use Rattle.fx_base.specs.declared.Tick.{Tick}
use Rattle.fx_base.specs.declared.Weight.{Weight}
use Rattle.interval_system.specs.Sent.{sent_low, sent_high}
use Rattle.interval_system.specs.Ticks.{tick_at}

pub low_start : (row : List Weight) (light : List Tick) → sent_low row light 0 ≡ 0
unfolding sent_low
low_start row light = refl

pub high_start : (row : List Weight) (light : List Tick) → sent_high row light 0 ≡ 0
unfolding sent_high
high_start row light = refl

pub low_more : (row : List Weight) (light : List Tick) (j : ℕ)
    → sent_low row light (j + 1) ≡ sent_low row light j + down_to 68719476736 ((slice_index_or row j no_weight).lo * tick_at light j)
unfolding sent_low
low_more row light j = rw add-one refl

pub high_more : (row : List Weight) (light : List Tick) (j : ℕ)
    → sent_high row light (j + 1) ≡ sent_high row light j + up_to 68719476736 ((slice_index_or row j no_weight).hi * tick_at light j)
unfolding sent_high
high_more row light j = rw add-one refl

pub ruleset sums = (low_start, high_start, low_more, high_more)
