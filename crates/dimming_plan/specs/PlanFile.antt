-- What a plan file says of the lamps of a room, and why it is refused.
use Rattle.std.specs.Prelude.{ℕ, ◌+◌, ◌≤◌, ◌==◌, ◌&&◌, nat_le, nat_lt, List, [], ◌∷◌, length, Result, Ok, Err}
use Rattle.csv.specs.Reading.{default_config, records, strip_bom}
use Rattle.claim_file.specs.Claims.{number_in, or_fault}
use Rattle.decimal_text.specs.Steps.{◌>>=◌, demand}
use Rattle.dimming_plan.specs.declared.entry.PlanLamp.{PlanLamp}
use Rattle.dimming_plan.specs.declared.fault.PlanFault.{PlanFault}
use Rattle.dimming_plan.specs.declared.fault.PlanFault.TheVariants as fault

-- the lamp in the record at place n, counted from 0: its number, one of six groups, and at most 10,000 watts
unfoldable pub lamp_in : ℕ → List (List ℕ) → Result PlanLamp PlanFault
lamp_in n fields = do
  three ← demand (length fields == 3) (fault.Record (n + 1))
  lamp ← or_fault (fault.Record (n + 1)) (number_in fields 0)
  group ← or_fault (fault.Record (n + 1)) (number_in fields 1)
  watts ← or_fault (fault.Record (n + 1)) (number_in fields 2)
  in_range ← demand (nat_le group 5 && nat_le watts 10000) (fault.Record (n + 1))
  next ← demand (lamp == n) (fault.Order (n + 1))
  Ok (record { group = group; watts = watts })

-- there is a lamp for it, and it has as many fields as the header
unfoldable pub lamp_of : (lamps width n : ℕ) → List (List ℕ) → Result PlanLamp PlanFault
lamp_of lamps width n fields = do
  wanted ← demand (nat_lt n lamps) fault.Count
  even ← demand (length fields == width) (fault.Record (n + 1))
  lamp_in n fields

-- what the records from place n on say, one for each lamp from n on
unfoldable pub lamps_from : (lamps width n : ℕ) → List (List (List ℕ)) → Result (List PlanLamp) PlanFault
lamps_from lamps width n [] = demand (n == lamps) fault.Count >>= λ all. Ok []
lamps_from lamps width n (fields ∷ rows) = do
  lamp ← lamp_of lamps width n fields
  more ← lamps_from lamps width (n + 1) rows
  Ok (lamp ∷ more)

-- the first record is the header, of which the number of fields alone counts
unfoldable pub plan_after : (lamps : ℕ) → List (List (List ℕ)) → Result (List PlanLamp) PlanFault
plan_after lamps [] = lamps_from lamps 0 0 []
plan_after lamps (header ∷ rows) = lamps_from lamps (length header) 0 rows

-- the plan that a text is of so many lamps, its records as CSV is read by default
unfoldable pub plan_of : (bytes : List ℕ) → (lamps : ℕ) → Result (List PlanLamp) PlanFault
plan_of bytes lamps = plan_after lamps (records default_config (strip_bom bytes))

-- ---- the lamps of groups

-- a group of the six, and its watts
abbrev pub IsPlanLamp : PlanLamp → Type 0
IsPlanLamp lamp = (lamp.group ≤ 5) × (lamp.watts ≤ 10000)
