-- Differences, computed.
use Rattle.std.specs.Prelude.{◌≡◌, false, negsuc, refl}
use Rattle.std.proofs.Common.{lit≤}
use Rattle.fx_base.specs.Fraction.{◌+ᶠ◌, at_most, ratio, whole}
use Rattle.fx_base.specs.Difference.{◌≤ᵈ◌, ◌+ᵈ◌, signed_ticks, spans}
use Rattle.fx_base.specs.Units.{ticks}

-- -3 ticks are at most -2 ticks, and not the other way round
three_below_two : signed_ticks (negsuc 2) ≤ᵈ signed_ticks (negsuc 1)
unfolding ticks ◌+ᶠ◌
three_below_two = record { cross = record { cross = lit≤ tt } }

two_above_three : at_most ((signed_ticks (negsuc 1)).start +ᶠ (signed_ticks (negsuc 2)).taken) ((signed_ticks (negsuc 2)).start +ᶠ (signed_ticks (negsuc 1)).taken) ≡ false
unfolding ticks ◌+ᶠ◌
two_above_three = refl

-- a third less a half is -1/6, which is -11,453,246,122.67 ticks
a_sixth_below : spans (record { lo = negsuc 11453246122; hi = negsuc 11453246121 }) (record { start = ratio 1 3; taken = ratio 1 2 })
unfolding ratio ticks ◌+ᶠ◌
a_sixth_below = (record { cross = record { cross = lit≤ tt } }, record { cross = record { cross = lit≤ tt } })

-- 1 - 3 and 3 - 1 add up to 4 - 4
added : (record { start = whole 1; taken = whole 3 } +ᵈ record { start = whole 3; taken = whole 1 }) ≤ᵈ record { start = whole 0; taken = whole 0 }
unfolding whole ◌+ᶠ◌
added = record { cross = record { cross = lit≤ tt } }
