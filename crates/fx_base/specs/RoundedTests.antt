-- Roundings, computed. The numbers are Python's.
use Rattle.std.specs.Prelude.{◌≡◌, ◌*◌, ◌^◌, refl}
use Rattle.fx_base.specs.Rounded.{down_to, up_to, hundredths_below, hundredths_above, thousandths_below, thousandths_above}

-- 7 / 2 is 3.5, and 8 / 2 is 4
down_and_up : down_to 2 7 ≡ 3
unfolding down_to
down_and_up = refl

up_and_down : up_to 2 7 ≡ 4
unfolding up_to
up_and_down = refl

even_down : down_to 2 8 ≡ 4
unfolding down_to
even_down = refl

even_up : up_to 2 8 ≡ 4
unfolding up_to
even_up = refl

-- a third, rounded down, of 7 ticks is 2.33 ticks: 22,906,492,245 * 7 / 2^36
third_down : down_to (2 ^ 36) (22906492245 * 7) ≡ 2
unfolding down_to
third_down = refl

third_up : up_to (2 ^ 36) (22906492245 * 7) ≡ 3
unfolding up_to
third_up = refl

-- 5000 / 9 lux is 38,177,487,075,555.56 ticks and 555.555.. lux
hundredths_down : hundredths_below 38177487075555 ≡ 55555
hundredths_down = refl

hundredths_up : hundredths_above 38177487075556 ≡ 55556
hundredths_up = refl

thousandths_down : thousandths_below 38177487075555 ≡ 555555
thousandths_down = refl

thousandths_up : thousandths_above 38177487075556 ≡ 555556
thousandths_up = refl

-- 200 lux exactly, and a tick more
whole_up : hundredths_above 13743895347200 ≡ 20000
whole_up = refl

a_tick_more : hundredths_above 13743895347201 ≡ 20001
a_tick_more = refl
