-- What stands in one line, or the fault of it. Lines are numbered from 1.
use Rattle.std.specs.Prelude.{ℕ, zero, suc, ◌+◌, ◌-◌, ◌*◌, ◌^◌, ◌&&◌, nat_le, if◌then◌else◌, List, [], ◌∷◌, ◌++◌, length, slice_index_or, ℤ, pos, negsuc, Result, Ok, Err}
use Rattle.std.specs.List.{list_all}
use Rattle.fx_base.specs.declared.Micro.{Micro}
use Rattle.decimal_text.specs.Numbers.{number}
use Rattle.decimal_text.specs.Steps.{◌>>=◌, counted, demand}
use Rattle.decimal_text.specs.declared.number.Mark.TheVariants.{PointOrComma}
use Rattle.decimal_text.specs.declared.number.NumberFault.{NumberFault}
use Rattle.decimal_text.specs.declared.number.NumberFault.TheVariants.{NotNumber, TooLarge}
use Rattle.symmetry_expand.specs.Measured.{micro}
use Rattle.eulumdat_read.specs.Lines.{trimmed, is_blank_byte}
use Rattle.eulumdat_read.specs.declared.fault.LdtFault.{LdtFault}
use Rattle.eulumdat_read.specs.declared.fault.LdtFault.TheVariants as fault

-- line k; whoever asks for a line that isn't there is told the first one that is missing
unfoldable pub line_at : List (List ℕ) → ℕ → Result (List ℕ) LdtFault
line_at lines k = if nat_le k (length lines) then Ok (slice_index_or lines (k - 1) []) else Err (fault.Short (length lines + 1))

-- ---- numbers, in millionths

-- a number that is too large is outside its range
abbrev pub number_fault : ℕ → NumberFault → LdtFault
number_fault k NotNumber = fault.Number k
number_fault k TooLarge = fault.Range k

abbrev pub or_fault : ℕ → Result ℤ NumberFault → Result ℤ LdtFault
or_fault k (Ok z) = Ok z
or_fault k (Err e) = Err (number_fault k e)

unfoldable pub number_at : List (List ℕ) → ℕ → Result ℤ LdtFault
number_at lines k = line_at lines k >>= λ line. or_fault k (number PointOrComma (trimmed line))

abbrev pub ranged : ℕ → ℕ → ℕ → ℤ → Result ℕ LdtFault
ranged k lo hi (pos n) = if nat_le lo n && nat_le n hi then Ok n else Err (fault.Range k)
ranged k lo hi (negsuc n) = Err (fault.Range k)

-- from lo to hi
unfoldable pub measured_at : List (List ℕ) → ℕ → ℕ → ℕ → Result ℕ LdtFault
measured_at lines k lo hi = number_at lines k >>= ranged k lo hi

-- a whole number from lo to hi
unfoldable pub count_at : List (List ℕ) → ℕ → ℕ → ℕ → Result ℕ LdtFault
count_at lines k lo hi = measured_at lines k (lo * 1000000) (hi * 1000000) >>= counted (fault.Range k)

-- ---- runs of lines; `front` is what was read of the run before

-- n angles up to `most`, each above the one before: `least` is the least that the next one may be
unfoldable pub angles_at : List (List ℕ) → ℕ → ℕ → ℕ → List Micro → ℕ → Result (List Micro) LdtFault
angles_at lines k most least front zero = Ok front
angles_at lines k most least front (suc n) =
    measured_at lines k 0 most >>= λ a.
    demand (nat_le least a) (fault.Order k) >>= λ _.
    angles_at lines (k + 1) most (a + 1) (front ++ micro a ∷ []) n

-- the total fluxes of n lamp sets, each in the third of its set's six lines
unfoldable pub fluxes_at : List (List ℕ) → ℕ → List ℕ → ℕ → Result (List ℕ) LdtFault
fluxes_at lines k front zero = Ok front
fluxes_at lines k front (suc n) = measured_at lines k 0 10000000000000 >>= λ f. fluxes_at lines (k + 6) (front ++ f ∷ []) n

-- candela per 1000 lumen times a factor: at most 10^7 candela, over 10^21
abbrev pub lit : ℕ → ℕ → ℤ → Result ℕ LdtFault
lit k factor (pos n) = if nat_le (n * factor) (10 ^ 28) then Ok (n * factor) else Err (fault.Intensity k)
lit k factor (negsuc n) = Err (fault.Negative k)

unfoldable pub value_at : List (List ℕ) → ℕ → ℕ → Result ℕ LdtFault
value_at lines k factor = number_at lines k >>= lit k factor

unfoldable pub values_at : List (List ℕ) → ℕ → ℕ → List ℕ → ℕ → Result (List ℕ) LdtFault
values_at lines k factor front zero = Ok front
values_at lines k factor front (suc n) = value_at lines k factor >>= λ v. values_at lines (k + 1) factor (front ++ v ∷ []) n

-- every line from number k on is blank
unfoldable pub all_blank : ℕ → List (List ℕ) → Result (Unit {0}) LdtFault
all_blank k [] = Ok tt
all_blank k (line ∷ lines) = if list_all is_blank_byte line then all_blank (k + 1) lines else Err (fault.Trailing k)
