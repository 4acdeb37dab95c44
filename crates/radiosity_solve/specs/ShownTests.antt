-- Claims, computed on h = 1 + h / 2, whose solution is 2, and on two patches.
use Rattle.std.specs.Prelude.{ℕ, ◌≡◌, refl}
use Rattle.radiosity_solve.specs.Shown.{down_to, up_to, lower_sum, upper_sum}

-- 2 lux are shown from both sides: what they send is 2 lux again
half : ℕ → ℕ → ℕ
half i j = 34359738368

one : ℕ → ℕ
one i = 68719476736

two : ℕ → ℕ
two i = 137438953472

two_from_below : lower_sum 1 68719476736 half one two 0 ≡ 137438953472
unfolding half one two down_to
two_from_below = refl

two_from_above : upper_sum 1 68719476736 half one two 0 ≡ 137438953472
unfolding half one two up_to
two_from_above = refl

-- one tick that is sent by a half is none from below and one from above
a_tick : ℕ → ℕ
a_tick i = 1

tick_from_below : lower_sum 2 68719476736 half one a_tick 1 ≡ 68719476736
unfolding half one a_tick down_to
tick_from_below = refl

tick_from_above : upper_sum 2 68719476736 half one a_tick 1 ≡ 68719476738
unfolding half one a_tick up_to
tick_from_above = refl
