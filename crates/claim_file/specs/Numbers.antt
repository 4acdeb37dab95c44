-- The numbers of a claim: decimal digits, with no zero before another digit.
use Rattle.std.specs.Prelude.{ℕ, ◌+◌, ◌-◌, ◌*◌, ◌^◌, ◌==◌, Bool, false, not, ◌||◌, if◌then◌else◌, List, [], ◌∷◌, length, fold, min, Option, Some, None}
use Rattle.std.specs.Char.{is_ascii_digit}
use Rattle.std.specs.List.{list_all}

-- ten times as much, and the digit
abbrev pub with_digit : ℕ → ℕ → ℕ
with_digit n b = 10 * n + (b - 48)

-- the number that digits write which follow those of n
unfoldable pub number_after : ℕ → List ℕ → Option ℕ
number_after n bytes = if list_all is_ascii_digit bytes then Some (fold with_digit n bytes) else None

-- there is a byte, and it is no zero before another one
abbrev pub begins_well : List ℕ → Bool
begins_well [] = false
begins_well (b ∷ bytes) = not (b == 48) || length bytes == 0

-- the number that a field writes, of any length
unfoldable pub number : List ℕ → Option ℕ
number field = if begins_well field then number_after 0 field else None

-- 2^90 + 1 in place of a greater number
abbrev pub capped : ℕ → ℕ
capped n = min n (2 ^ 90 + 1)
