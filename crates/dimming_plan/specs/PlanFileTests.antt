-- What small plan files say, computed: two lamps, and each fault with its record.
use Rattle.std.specs.Prelude.{ℕ, ◌≡◌, List, [], ◌∷◌, ◌++◌, codes, refl, Ok, Err}
use Rattle.csv.proofs.OnLiterals.{csv_on_literals}
use Rattle.csv.specs.Records.{field_at}
use Rattle.claim_file.specs.Numbers.{number, number_after}
use Rattle.dimming_plan.specs.declared.fault.PlanFault.TheVariants as fault
use Rattle.dimming_plan.specs.PlanFile.{lamp_in, lamp_of, lamps_from, plan_after, plan_of}

unfoldable computed : Unit {0}
unfolding csv_on_literals field_at number number_after lamp_in lamp_of lamps_from plan_after plan_of
computed = tt

abbrev with_line : List ℕ → List ℕ → List ℕ
with_line line text = line ++ (10 ∷ text)

abbrev header : List ℕ
header = codes "lamp,group,watts"

-- two lamps, in the first two groups
both_are_read : plan_of (with_line header (with_line (codes "0,0,50") (codes "1,1,40"))) 2 ≡ Ok (record { group = 0; watts = 50 } ∷ record { group = 1; watts = 40 } ∷ [])
unfolding computed
both_are_read = refl

-- the last group and the most watts
greatest_numbers : plan_of (with_line header (codes "0,5,10000")) 1 ≡ Ok (record { group = 5; watts = 10000 } ∷ [])
unfolding computed
greatest_numbers = refl

no_such_group : plan_of (with_line header (with_line (codes "0,6,50") (codes "1,1,40"))) 2 ≡ Err (fault.Record 1)
unfolding computed
no_such_group = refl

too_many_watts : plan_of (with_line header (with_line (codes "0,0,50") (codes "1,1,10001"))) 2 ≡ Err (fault.Record 2)
unfolding computed
too_many_watts = refl

another_lamp : plan_of (with_line header (with_line (codes "0,0,50") (codes "2,1,40"))) 2 ≡ Err (fault.Order 2)
unfolding computed
another_lamp = refl

one_too_few : plan_of (with_line header (codes "0,0,50")) 2 ≡ Err fault.Count
unfolding computed
one_too_few = refl

one_too_many : plan_of (with_line header (with_line (codes "0,0,50") (codes "x"))) 1 ≡ Err fault.Count
unfolding computed
one_too_many = refl

no_text : plan_of [] 1 ≡ Err fault.Count
unfolding computed
no_text = refl
