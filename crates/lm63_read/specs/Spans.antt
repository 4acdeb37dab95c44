-- Products as spans.
use Rattle.std.specs.Prelude.{ℕ, ◌+◌, ◌-◌, ◌*◌, ◌/◌, ◌^◌, ◌≡◌, List, [], map, pos, Result, Ok}
use Rattle.std.specs.Int.{div_ceil}
use Rattle.fx_base.specs.Ends.{Ends}
use Rattle.fx_base.specs.declared.micro.Micro.{Micro}
use Rattle.lm63_read.specs.Values.{values_at}
use Rattle.lm63_read.specs.Files.{IesFile}
use Rattle.lm63_read.specs.declared.fault.IesFault.{IesFault}

-- so many candela over 10^24, rounded down and up to a tick
abbrev pub span_of : ℕ → Ends
span_of n = record { lo = pos (n * 2 ^ 36 / 10 ^ 24); hi = pos (div_ceil (n * 2 ^ 36) (10 ^ 24)) }

unfoldable pub spans_of : List ℕ → List Ends
spans_of products = map span_of products

-- the spans are those of the products that were read
pub record AreSpansOf (spans : List Ends) (read : Result (List ℕ) IesFault) : Type 0 where
  pub products : List ℕ
  pub is : read ≡ Ok products
  pub are : spans ≡ spans_of products

-- the products of the first i of n items from item k on, and where the rest of them begins
pub record ReadSoFar (items : List (List ℕ)) (k factor n i : ℕ) (spans : List Ends) : Type 0 where
  pub front : List ℕ
  pub so_far : values_at items k factor [] n ≡ values_at items (k + i) factor front (n - i)
  pub are : spans ≡ spans_of front

-- what is read of a file is that file, its products as spans
pub record IsReading (verticals horizontals : List Micro) (spans : List Ends) (read : Result IesFile IesFault) : Type 0 where
  pub products : List ℕ
  pub is : read ≡ Ok (record { verticals = verticals; horizontals = horizontals; values = products })
  pub are : spans ≡ spans_of products
