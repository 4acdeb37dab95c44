-- The definitions, computed.
use Rattle.std.specs.Prelude.{◌≡◌, ◌+◌, ◌==◌, ◌&&◌, List, ◌∷◌, [], true, false, refl, pos, Some, None}
use Rattle.fx_base.specs.Fraction.{at_most, ratio, whole, ◌+ᶠ◌, ◌*ᶠ◌, ◌/ᶠ◌, lesser, sum_to}
use Rattle.fx_base.specs.Interval.{exact}
use Rattle.interval_system.specs.Values.{Grid, open_count, open_sum, mean, least, average, uniformity}
use Rattle.fx_base.specs.Rounded.{down_to, up_to}
use Rattle.grid_report.specs.Headline.{least_end}
use Rattle.report_form.specs.declared.report.Printed.{Printed}
use Rattle.grid_report.specs.Reports.{in_cents, printed_ratio, printed_value}
use Rattle.interval_system.specs.Sent.{sent_low, sent_high}
use Rattle.scene_system.specs.Sums.{average_low, average_high}
use Rattle.scene_system.specs.declared.value.PointValue.{PointValue}

unfoldable everything : Unit {0}
unfolding ratio whole ◌+ᶠ◌ ◌*ᶠ◌ ◌/ᶠ◌ lesser sum_to open_count open_sum mean least average uniformity
everything = tt

-- three points, one of them covered: the mean of 2 and 4 is 3, and the least by it 2/3
abbrev three : Grid
three = record { points = 3; covered = λ g. g == 1; value = λ g. exact (whole (2 + g)) }

mean_of_three : (at_most (average three).lo (whole 3) && at_most (whole 3) (average three).lo) ≡ true
unfolding everything
mean_of_three = refl

uniformity_of_three : (at_most (uniformity three).lo (ratio 2 3) && at_most (ratio 2 3) (uniformity three).lo && at_most (uniformity three).hi (ratio 2 3)) ≡ true
unfolding everything
uniformity_of_three = refl

-- ---- sums in ticks

-- a weight of a tick and a light of a tick: less than a tick is sent
sent_by_a_tick : (sent_low (record { lo = 1; hi = 1 } ∷ []) (record { 0 = pos 1 } ∷ []) 1 == 0 && sent_high (record { lo = 1; hi = 1 } ∷ []) (record { 0 = pos 1 } ∷ []) 1 == 1) ≡ true
unfolding sent_low sent_high down_to up_to
sent_by_a_tick = refl

-- the covered one of three values counts for nothing
abbrev values : List PointValue
values = record { covered = false; value = record { lo = pos 10; hi = pos 12 } } ∷ record { covered = true; value = record { lo = pos 5; hi = pos 7 } }
    ∷ record { covered = false; value = record { lo = pos 21; hi = pos 23 } } ∷ []

average_of_values : (average_low values == 15 && average_high values == 18) ≡ true
average_of_values = refl

-- millionths in thousandths
thousandths_outward : printed_ratio (record { lo = 9239; hi = 246092 }) ≡ record { lo = 9; hi = 247 }
thousandths_outward = refl

-- ---- what is printed

least_of_three : least_end (λ (d : Printed). d.lo) (Some (record { lo = 7; hi = 9 }) ∷ None ∷ Some (record { lo = 5; hi = 20 }) ∷ []) ≡ Some 5
least_of_three = refl

-- 5000 / 9 lux lies between two ticks, and is printed 555.55 555.56; 200 lux are whole
cents_outward : in_cents 38177487075555 38177487075556 ≡ record { lo = 55555; hi = 55556 }
cents_outward = refl

whole_cents : in_cents 13743895347200 13743895347200 ≡ record { lo = 20000; hi = 20000 }
whole_cents = refl

-- a tick past a hundredth is printed as the next one
cents_of_a_tick_more : in_cents 13743895347200 13743895347201 ≡ record { lo = 20000; hi = 20001 }
cents_of_a_tick_more = refl

nothing_printed : printed_value (record { covered = true; value = record { lo = pos 0; hi = pos 0 } }) ≡ None
nothing_printed = refl

ends_printed : printed_value (record { covered = false; value = record { lo = pos 13743895347200; hi = pos 13743895347201 } }) ≡ Some (record { lo = 20000; hi = 20001 })
ends_printed = refl
