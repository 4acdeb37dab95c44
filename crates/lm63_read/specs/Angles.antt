-- The angles of a file, each of which is tested as it is read, with those in front of it and with how many are still to come.
use Rattle.std.specs.Prelude.{ℕ, zero, suc, ◌+◌, ◌-◌, ◌*◌, ◌==◌, Bool, ◌&&◌, ◌||◌, nat_lt, if◌then◌else◌, List, [], ◌∷◌, ◌++◌, length, slice_index_or, ℤ, pos, int_lt, int_le, Option, Some, None, is_some, Result, Ok}
use Rattle.std.specs.Ordering.{int_eq}
use Rattle.fx_base.specs.declared.micro.Micro.{Micro}
use Rattle.symmetry_expand.specs.declared.symmetry.Symmetry.{Symmetry}
use Rattle.symmetry_expand.specs.declared.symmetry.Symmetry.TheVariants as symmetry
use Rattle.lm63_read.specs.declared.angles.AngleKind.{AngleKind}
use Rattle.lm63_read.specs.declared.angles.AngleKind.TheVariants.{Vertical, Horizontal}
use Rattle.lm63_read.specs.declared.fault.IesFault.{IesFault}
use Rattle.lm63_read.specs.declared.fault.IesFault.TheVariants as fault
use Rattle.decimal_text.specs.Steps.{◌>>=◌, demand}
use Rattle.lm63_read.specs.Reads.{number_at}

-- so many degrees
abbrev pub is_degrees : ℕ → ℤ → Bool
is_degrees d z = int_eq z (pos (d * 1000000))

abbrev pub micro : ℤ → Micro
micro z = record { 0 = z }

abbrev pub first_of : List Micro → ℤ → ℤ
first_of front z = (slice_index_or front 0 (micro z)).0

abbrev pub last_of : List Micro → ℤ
last_of front = (slice_index_or front (length front - 1) (micro (pos 0))).0

-- the first is 0 or 90, and each other one is above the one before it
abbrev pub rises : List Micro → ℤ → Bool
rises front z = if length front == 0 then is_degrees 0 z || is_degrees 90 z else int_lt (last_of front) z

-- the last vertical angle is 90 or 180
abbrev pub is_vertical : List Micro → ℤ → ℕ → Bool
is_vertical front z left = rises front z && (nat_lt 0 left || is_degrees 90 z || is_degrees 180 z)

-- what so many horizontal angles from the first to the last stand for: the same all round, a quarter, a half, a whole turn with or
-- without its end, or the half on either side of 180
abbrev pub symmetry_of : ℕ → ℤ → ℤ → Option Symmetry
symmetry_of count first last =
    if count == 1 then (if is_degrees 0 first then Some symmetry.Axis else None)
    else (if is_degrees 0 first then
    (if is_degrees 90 last then Some symmetry.Both
    else (if is_degrees 180 last then Some symmetry.Plane0
    else (if int_lt (pos 180000000) last && int_le last (pos 360000000) then Some symmetry.None else None)))
    else (if is_degrees 90 first && is_degrees 270 last then Some symmetry.Plane90 else None))

-- the last horizontal angle makes up one of these
abbrev pub is_horizontal : List Micro → ℤ → ℕ → Bool
is_horizontal front z left = rises front z && (nat_lt 0 left || is_some (symmetry_of (length front + 1) (first_of front z) z))

unfoldable pub fits : AngleKind → List Micro → ℤ → ℕ → Bool
fits Vertical front z left = is_vertical front z left
fits Horizontal front z left = is_horizontal front z left

-- the angle in item k, after those in front and before so many
unfoldable pub angle_at : AngleKind → List (List ℕ) → ℕ → List Micro → ℕ → Result Micro IesFault
angle_at kind items k front left = do
  z ← number_at items k
  fit ← demand (fits kind front z left) (fault.Angles k)
  Ok (micro z)

-- n angles from item k on, after those in front
unfoldable pub angles_at : AngleKind → List (List ℕ) → ℕ → List Micro → ℕ → Result (List Micro) IesFault
angles_at kind items k front zero = Ok front
angles_at kind items k front (suc n) = do
  a ← angle_at kind items k front n
  angles_at kind items (k + 1) (front ++ a ∷ []) n
