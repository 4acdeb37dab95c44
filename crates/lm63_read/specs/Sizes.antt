-- The numbers before the angles.
use Rattle.std.specs.Prelude.{ℕ, ◌+◌, ◌*◌, Bool, true, false, List, Result, Ok}
use Rattle.lm63_read.specs.declared.head.Header.{Header}
use Rattle.lm63_read.specs.declared.head.Header.TheVariants.{Of1991, Of1995, Of2002}
use Rattle.lm63_read.specs.declared.fault.IesFault.{IesFault}
use Rattle.decimal_text.specs.Steps.{◌>>=◌}
use Rattle.lm63_read.specs.Reads.{measured_at, count_at, type_at}

-- how many items stand before the first of the 13 that every file has: with the tilt in the file its geometry, a count m, m angles
-- and m factors, which are passed over
unfoldable pub shift_of : List (List ℕ) → Bool → Result ℕ IesFault
shift_of items false = Ok 0
shift_of items true = count_at items 2 0 1000 >>= λ m. Ok (2 + 2 * m)

-- item 12 is a factor under the oldest header, and is passed over, as if it were 1, under the others
abbrev pub further_at : Header → List (List ℕ) → ℕ → Result ℕ IesFault
further_at Of1991 items k = measured_at items k 0 2000000
further_at Of1995 items k = Ok 1000000
further_at Of2002 items k = Ok 1000000

-- how many items stand in front, how many gammas and planes the table has, and the product of the factors over 10^18
pub record Sizes : Type 0 where
  pub shift : ℕ
  pub gammas : ℕ
  pub planes : ℕ
  pub factor : ℕ

unfoldable pub sizes_of : Header → List (List ℕ) → Bool → Result Sizes IesFault
sizes_of header items tilted = do
  shift ← shift_of items tilted
  multiplier ← measured_at items (shift + 3) 0 10000000000
  gammas ← count_at items (shift + 4) 2 721
  planes ← count_at items (shift + 5) 1 721
  kind ← type_at items (shift + 6)
  ballast ← measured_at items (shift + 11) 0 10000000
  further ← further_at header items (shift + 12)
  Ok (record { shift = shift; gammas = gammas; planes = planes; factor = multiplier * ballast * further })
