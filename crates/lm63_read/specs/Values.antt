-- The intensities of a file. Each is the product of what its item says and of the file's factors, all in millionths, and so in
-- candela over 10^24.
use Rattle.std.specs.Prelude.{ℕ, zero, suc, ◌+◌, ◌*◌, ◌^◌, nat_le, if◌then◌else◌, List, [], ◌∷◌, ◌++◌, Option, Some, None, Result, Ok, Err}
use Rattle.lm63_read.specs.declared.fault.IesFault.{IesFault}
use Rattle.lm63_read.specs.declared.fault.IesFault.TheVariants as fault
use Rattle.decimal_text.specs.Steps.{◌>>=◌}
use Rattle.lm63_read.specs.Reads.{natural_of, number_at}

-- from 0 to 10,000,000 candela
abbrev pub lit : ℕ → ℕ → Option ℕ → Result ℕ IesFault
lit k factor None = Err (fault.Negative k)
lit k factor (Some n) = if nat_le (n * factor) (10 ^ 31) then Ok (n * factor) else Err (fault.Intensity k)

unfoldable pub value_at : List (List ℕ) → ℕ → ℕ → Result ℕ IesFault
value_at items k factor = number_at items k >>= λ z. lit k factor (natural_of z)

-- n intensities from item k on, after those in front
unfoldable pub values_at : List (List ℕ) → ℕ → ℕ → List ℕ → ℕ → Result (List ℕ) IesFault
values_at items k factor front zero = Ok front
values_at items k factor front (suc n) = do
  v ← value_at items k factor
  values_at items (k + 1) factor (front ++ v ∷ []) n
