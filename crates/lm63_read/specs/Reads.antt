-- What an item says, and the fault of one that can't stand. Items are counted from 1, numbers are in millionths.
use Rattle.std.specs.Prelude.{ℕ, ◌+◌, ◌-◌, ◌*◌, ◌&&◌, ◌||◌, nat_le, if◌then◌else◌, List, [], length, slice_index_or, ℤ, pos, negsuc, Option, Some, None, Result, Ok, Err}
use Rattle.std.specs.Ordering.{int_eq}
use Rattle.decimal_text.specs.Numbers.{number}
use Rattle.decimal_text.specs.Steps.{◌>>=◌, counted}
use Rattle.decimal_text.specs.declared.number.Mark.TheVariants.{Point}
use Rattle.decimal_text.specs.declared.number.NumberFault.{NumberFault}
use Rattle.decimal_text.specs.declared.number.NumberFault.TheVariants.{NotNumber, TooLarge}
use Rattle.lm63_read.specs.declared.fault.IesFault.{IesFault}
use Rattle.lm63_read.specs.declared.fault.IesFault.TheVariants as fault

-- ---- one item

-- item k; of items that are missing the first is the fault, also where those before k are passed over
unfoldable pub item_at : List (List ℕ) → ℕ → Result (List ℕ) IesFault
item_at items k = if nat_le k (length items) then Ok (slice_index_or items (k - 1) []) else Err (fault.Short (length items + 1))

abbrev pub numbered : ℕ → Result ℤ NumberFault → Result ℤ IesFault
numbered k (Ok z) = Ok z
numbered k (Err NotNumber) = Err (fault.Number k)
numbered k (Err TooLarge) = Err (fault.Range k)

unfoldable pub number_at : List (List ℕ) → ℕ → Result ℤ IesFault
number_at items k = item_at items k >>= λ item. numbered k (number Point item)

-- a whole number, where it isn't below 0
abbrev pub natural_of : ℤ → Option ℕ
natural_of (pos n) = Some n
natural_of (negsuc n) = None

abbrev pub ranged : ℕ → ℕ → ℕ → Option ℕ → Result ℕ IesFault
ranged k least most None = Err (fault.Range k)
ranged k least most (Some n) = if nat_le least n && nat_le n most then Ok n else Err (fault.Range k)

-- a number from the least to the greatest, neither below 0
unfoldable pub measured_at : List (List ℕ) → ℕ → ℕ → ℕ → Result ℕ IesFault
measured_at items k least most = number_at items k >>= λ z. ranged k least most (natural_of z)

-- a whole number in a range
unfoldable pub count_at : List (List ℕ) → ℕ → ℕ → ℕ → Result ℕ IesFault
count_at items k least most = measured_at items k (least * 1000000) (most * 1000000) >>= counted (fault.Range k)

-- 1 is photometry of type C, 2 and 3 are of types B and A
abbrev pub typed : ℕ → ℤ → Result (Unit {0}) IesFault
typed k z =
    if int_eq z (pos 1000000) then Ok tt
    else (if int_eq z (pos 2000000) || int_eq z (pos 3000000) then Err fault.PhotometricType else Err (fault.Range k))

unfoldable pub type_at : List (List ℕ) → ℕ → Result (Unit {0}) IesFault
type_at items k = number_at items k >>= typed k
