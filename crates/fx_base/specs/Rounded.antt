-- Numbers of ticks divided and rounded down or up. A tick is 2^-36.
use Rattle.std.specs.Prelude.{ℕ, ◌+◌, ◌-◌, ◌*◌, ◌/◌, ◌^◌}
use Rattle.std.specs.Int.{div_ceil}

-- x / s rounded down, and up: a product of two numbers of ticks is taken to ticks so, with s ticks in one
unfoldable pub down_to : ℕ → ℕ → ℕ
down_to s x = x / s

unfoldable pub up_to : ℕ → ℕ → ℕ
up_to s x = (x + (s - 1)) / s

-- t ticks in hundredths, and in thousandths
abbrev pub hundredths_below : ℕ → ℕ
hundredths_below t = t * 100 / 2 ^ 36

abbrev pub hundredths_above : ℕ → ℕ
hundredths_above t = div_ceil (t * 100) (2 ^ 36)

abbrev pub thousandths_below : ℕ → ℕ
thousandths_below t = t * 1000 / 2 ^ 36

abbrev pub thousandths_above : ℕ → ℕ
thousandths_above t = div_ceil (t * 1000) (2 ^ 36)
