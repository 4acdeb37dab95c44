-- The angles C and gamma of a direction, enclosed at every depth n. C is counted from the x axis towards y, less the lamp's turn.
-- Gamma is counted from straight down.
use Rattle.std.specs.Prelude.{ℕ, ◌+◌, ◌*◌, Bool, if◌then◌else◌, nat_le, nat_eq, ℤ, pos, int_lt, unsigned_abs}
use Rattle.fx_base.specs.Fraction.{◌+ᶠ◌, ◌-ᶠ◌, whole, at_most}
use Rattle.fx_base.specs.Interval.{Interval, exact}
use Rattle.series_enclose.specs.Slant.{slant}

abbrev pub square : ℤ → ℕ
square d = unsigned_abs d * unsigned_abs d

abbrev pub is_negative : ℤ → Bool
is_negative d = int_lt d (pos 0)

abbrev pub is_positive : ℤ → Bool
is_positive d = int_lt (pos 0) d

-- what an angle leaves of d degrees: its ends change places
unfoldable pub less_angle : ℕ → Interval → Interval
less_angle d t = record { lo = whole d -ᶠ t.hi; hi = whole d -ᶠ t.lo }

unfoldable pub plus_angle : ℕ → Interval → Interval
plus_angle d t = record { lo = whole d +ᶠ t.lo; hi = whole d +ᶠ t.hi }

-- the angle, 0 to 90 degrees, whose squared tangent is y / x: slant takes the lesser of the two by the greater
unfoldable pub quarter_angle : ℕ → ℕ → ℕ → Interval
quarter_angle n x y = if nat_le y x then slant n x y else less_angle 90 (slant n y x)

-- ---- C

-- the angle from the x axis towards y, where t is the one with the x axis: by whether the direction has a negative x, a negative y
unfoldable pub in_quarter : Bool → Bool → Interval → Interval
in_quarter west south t =
    if south
    then (if west then plus_angle 180 t else less_angle 360 t)
    else (if west then less_angle 180 t else t)

unfoldable pub angle_c : ℕ → ℤ → ℤ → Interval
angle_c n dx dy = in_quarter (is_negative dx) (is_negative dy) (quarter_angle n (square dx) (square dy))

-- less a turn below 360, and a whole turn later, so that nothing is below 0
unfoldable pub less_turn : ℕ → Interval → Interval
less_turn turn t = record { lo = (t.lo +ᶠ whole 360) -ᶠ whole turn; hi = (t.hi +ᶠ whole 360) -ᶠ whole turn }

-- the lower end, below 720, brought below 360 by a whole turn
unfoldable pub brought : Interval → Interval
brought t = if at_most (whole 360) t.lo then record { lo = t.lo -ᶠ whole 360; hi = t.hi -ᶠ whole 360 } else t

-- C of a horizontal direction less the lamp's turn, and 0 where there is no direction
unfoldable pub direction_c : ℕ → ℤ → ℤ → ℕ → Interval
direction_c n dx dy turn = if nat_eq (square dx + square dy) 0 then exact (whole 0) else brought (less_turn turn (angle_c n dx dy))

-- ---- gamma

-- from straight up, 180 less it
unfoldable pub direction_gamma : ℕ → ℤ → ℤ → ℤ → Interval
direction_gamma n dx dy dz =
    let t = quarter_angle n (square dz) (square dx + square dy) in
    if is_positive dz then less_angle 180 t else t
