-- Roots, computed: the root of 2 lies in 1.25 .. 1.5, and that of 25 in 5 .. 5.25.
use Rattle.std.specs.Prelude.{◌≡◌, ◌*◌, ◌^◌, refl}
use Rattle.fx_base.specs.Search.{root_digits, whole_root}
use Rattle.fx_base.specs.Root.{halved, root}

-- 24000^2 is 576,000,000
root_of_a_square : whole_root (36000000 * 4 ^ 2) ≡ 24000
unfolding whole_root root_digits
root_of_a_square = refl

root_of_two : root 2 2 ≡ record { lo = halved 2 5; hi = halved 2 6 }
unfolding whole_root root_digits root
root_of_two = refl

root_of_twenty_five : root 2 25 ≡ record { lo = halved 2 20; hi = halved 2 21 }
unfolding whole_root root_digits root
root_of_twenty_five = refl

-- Python's math.isqrt(2 * 4**36): the root of 2 in ticks
root_of_two_in_ticks : root 36 2 ≡ record { lo = halved 36 97184015999; hi = halved 36 97184016000 }
unfolding whole_root root_digits root
root_of_two_in_ticks = refl
