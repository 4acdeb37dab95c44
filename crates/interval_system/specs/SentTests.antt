-- Sums of a row, computed. Those of two patches are from Python's fractions:
--
--     low, high, light = [30000000000, 10000000000], [30000000001, 10000000005], [1000000000001, 12345]
--     print(sum(floor(F(w * x, 2**36)) for w, x in zip(low, light)), sum(ceil(F(w * x, 2**36)) for w, x in zip(high, light)))
use Rattle.std.specs.Prelude.{◌≡◌, List, [], ◌∷◌, pos, refl}
use Rattle.fx_base.specs.declared.Tick.{Tick}
use Rattle.fx_base.specs.declared.Weight.{Weight}
use Rattle.fx_base.specs.Rounded.{down_to, up_to}
use Rattle.interval_system.specs.Sent.{sent_low, sent_high}
use Rattle.interval_system.specs.Ticks.{tick_at}

abbrev two_weights : List Weight
two_weights = record { lo = 30000000000; hi = 30000000001 } ∷ record { lo = 10000000000; hi = 10000000005 } ∷ []

abbrev two_lights : List Tick
two_lights = record { 0 = pos 1000000000001 } ∷ record { 0 = pos 12345 } ∷ []

second_light : tick_at two_lights 1 ≡ 12345
second_light = refl

no_third : tick_at two_lights 2 ≡ 0
no_third = refl

both_from_below : sent_low two_weights two_lights 2 ≡ 436557458647
unfolding sent_low down_to
both_from_below = refl

both_from_above : sent_high two_weights two_lights 2 ≡ 436557458663
unfolding sent_high up_to
both_from_above = refl

first_from_below : sent_low two_weights two_lights 1 ≡ 436557456851
unfolding sent_low down_to
first_from_below = refl
