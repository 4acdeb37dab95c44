-- The items of a whole file.
use Rattle.std.specs.Prelude.{ℕ, ◌+◌, ◌*◌, Bool, nat_le, List, [], length, Result, Ok}
use Rattle.fx_base.specs.declared.micro.Micro.{Micro}
use Rattle.lm63_read.specs.declared.head.Header.{Header}
use Rattle.lm63_read.specs.declared.angles.AngleKind.TheVariants.{Vertical, Horizontal}
use Rattle.lm63_read.specs.declared.fault.IesFault.{IesFault}
use Rattle.lm63_read.specs.declared.fault.IesFault.TheVariants as fault
use Rattle.decimal_text.specs.Steps.{◌>>=◌, demand}
use Rattle.lm63_read.specs.Angles.{angles_at}
use Rattle.lm63_read.specs.Values.{values_at}
use Rattle.lm63_read.specs.Sizes.{Sizes, sizes_of}

-- what a file measures: vertical angles, horizontal angles, and for each horizontal and vertical one an intensity in candela over
-- 10^24, horizontal angle by horizontal angle
pub record IesFile : Type 0 where
  pub verticals : List Micro
  pub horizontals : List Micro
  pub values : List ℕ

-- the place of the last intensity
abbrev pub last_item : Sizes → ℕ
last_item s = s.shift + 13 + s.gammas + s.planes + s.planes * s.gammas

abbrev pub ended_at : List (List ℕ) → ℕ → Result (Unit {0}) IesFault
ended_at items k = demand (nat_le (length items) k) (fault.Trailing (k + 1))

unfoldable pub table_at : List (List ℕ) → Sizes → Result IesFile IesFault
table_at items s = do
  verticals ← angles_at Vertical items (s.shift + 14) [] s.gammas
  horizontals ← angles_at Horizontal items (s.shift + 14 + s.gammas) [] s.planes
  values ← values_at items (s.shift + 14 + s.gammas + s.planes) s.factor [] (s.planes * s.gammas)
  end ← ended_at items (last_item s)
  Ok (record { verticals = verticals; horizontals = horizontals; values = values })

-- what the items say under a header, the tilt being among them or not
unfoldable pub ies : Header → List (List ℕ) → Bool → Result IesFile IesFault
ies header items tilted = sizes_of header items tilted >>= table_at items
