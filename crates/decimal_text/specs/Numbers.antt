-- The numbers of photometric files: a sign or none, digits, and where there is a mark the digits after it. At least one digit
-- stands on one side of the mark, and there are no exponents.
use Rattle.std.specs.Prelude.{ℕ, ◌+◌, ◌-◌, ◌*◌, ◌^◌, ◌≡◌, ◌==◌, Bool, true, false, ◌&&◌, ◌||◌, nat_le, nat_lt, if◌then◌else◌, List, [], ◌∷◌, length, take, drop, take_while, ℤ, pos, neg_ℤ, Option, Some, None, Result, Ok, Err}
use Rattle.std.specs.List.{list_all, prefix_len}
use Rattle.decimal_text.specs.declared.number.Mark.{Mark}
use Rattle.decimal_text.specs.declared.number.Mark.TheVariants.{Point, PointOrComma}
use Rattle.decimal_text.specs.declared.number.NumberFault.{NumberFault}
use Rattle.decimal_text.specs.declared.number.NumberFault.TheVariants.{NotNumber, TooLarge}

-- ---- how a number is spelled

-- `0` to `9`
abbrev pub is_digit : ℕ → Bool
is_digit b = nat_le 48 b && nat_le b 57

abbrev pub AreDigits : List ℕ → Type 0
AreDigits bytes = list_all is_digit bytes ≡ true

abbrev pub is_zero : ℕ → Bool
is_zero b = b == 48

-- `+` or `-`
abbrev pub is_sign : ℕ → Bool
is_sign b = b == 43 || b == 45

-- `.`, or `.` and `,`
abbrev pub is_mark : Mark → ℕ → Bool
is_mark Point b = b == 46
is_mark PointOrComma b = b == 46 || b == 44

abbrev pub is_minus : List ℕ → Bool
is_minus [] = false
is_minus (b ∷ bytes) = b == 45

-- what stands behind the sign
abbrev pub unsigned : List ℕ → List ℕ
unsigned [] = []
unsigned (b ∷ bytes) = if is_sign b then bytes else b ∷ bytes

-- the digits behind the mark, which is the first of what stands behind the whole part; nothing may follow them
abbrev pub after_mark : Mark → List ℕ → Option (List ℕ)
after_mark mark [] = Some []
after_mark mark (m ∷ digits) = if is_mark mark m && list_all is_digit digits then Some digits else None

-- the digits on either side of the mark
pub record Spelled : Type 0 where
  pub whole : List ℕ
  pub decimals : List ℕ

abbrev pub some_digit : List ℕ → Option (List ℕ) → Option Spelled
some_digit whole None = None
some_digit whole (Some decimals) =
    if nat_lt 0 (length whole + length decimals) then Some (record { whole = whole; decimals = decimals }) else None

unfoldable pub spelled : Mark → List ℕ → Option Spelled
spelled mark bytes =
    let u = unsigned bytes in some_digit (take_while is_digit u) (after_mark mark (drop (prefix_len is_digit u) u))

-- ---- which number that is

-- each digit times the power of ten of its place
abbrev pub worth : List ℕ → ℕ
worth [] = 0
worth (d ∷ digits) = (d - 48) * 10 ^ length digits + worth digits

-- the same of decimals, in millionths: those past the sixth are dropped
abbrev pub millionths : List ℕ → ℕ
millionths decimals = worth (take 6 decimals) * 10 ^ (6 - length decimals)

abbrev pub without_zeros : List ℕ → List ℕ
without_zeros digits = drop (prefix_len is_zero digits) digits

abbrev pub signed : Bool → ℕ → ℤ
signed minus n = if minus then neg_ℤ (pos n) else pos n

-- in millionths; at most nine digits may stand before the mark, leading zeros left out
abbrev pub valued : Bool → Option Spelled → Result ℤ NumberFault
valued minus None = Err NotNumber
valued minus (Some s) =
    if nat_lt 9 (length (without_zeros s.whole)) then Err TooLarge
    else Ok (signed minus (worth s.whole * 10 ^ 6 + millionths s.decimals))

-- the number that bytes say
unfoldable pub number : Mark → List ℕ → Result ℤ NumberFault
number mark bytes = valued (is_minus bytes) (spelled mark bytes)
