-- The parts of a number that the reader holds.
use Rattle.std.specs.Prelude.{ℕ, ◌≡◌, List, Option, Some, None}
use Rattle.decimal_text.specs.declared.number.Mark.{Mark}
use Rattle.decimal_text.specs.declared.number.Spelled.{Spelled as Held}
use Rattle.decimal_text.specs.Numbers.{spelled, AreDigits}

-- they are those of the bytes, which are no number where there are none
abbrev pub IsSpelled : Mark → List ℕ → Option Held → Type 0
IsSpelled mark bytes None = spelled mark bytes ≡ None
IsSpelled mark bytes (Some s) = spelled mark bytes ≡ Some (record { whole = s.whole.now; decimals = s.decimals.now })

pub record HasDigits (s : Held) : Type 0 where
  pub whole : AreDigits s.whole.now
  pub decimals : AreDigits s.decimals.now
