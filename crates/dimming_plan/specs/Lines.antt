-- How the two plans found are printed.
use Rattle.std.specs.Prelude.{ℕ, ◌/◌, List, ◌++◌, codes, decimal, slice_index, Option, Some, None}
use Rattle.decimal_text.specs.Decimals.{digit}
use Rattle.decimal_text.specs.Lines.{line}
use Rattle.dimming_plan.specs.declared.power.Found.{Found}
use Rattle.dimming_plan.specs.declared.power.PowerBracket.{PowerBracket}

-- so many tenths of a watt, in watts with one decimal
abbrev pub tenths : ℕ → List ℕ
tenths n = decimal (n / 10) ++ codes "." ++ digit n

-- the step of group g, after a space, and then more
abbrev pub step_then : List ℕ → ℕ → List ℕ → List ℕ
step_then steps g more = codes " " ++ (decimal (slice_index steps g) ++ more)

abbrev pub steps_text : List ℕ → List ℕ
steps_text steps = step_then steps 0 (step_then steps 1 (step_then steps 2 (step_then steps 3 (step_then steps 4 (codes " " ++ decimal (slice_index steps 5))))))

-- the power of a plan in watts and the step of each group in tenths, or that there is none
abbrev pub found_text : Option Found → List ℕ
found_text None = codes "none"
found_text (Some f) = tenths f.tenths ++ steps_text f.steps

-- the plan that is shown to reach the limit, and the one that isn't shown to miss it
abbrev pub plan_text : PowerBracket → List ℕ
plan_text bracket = line (codes "met " ++ found_text bracket.met) ++ line (codes "possible " ++ found_text bracket.possible)
