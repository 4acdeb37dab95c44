-- How a refused plan file is printed.
use Rattle.std.specs.Prelude.{ℕ, List, ◌++◌, ◌≡◌, codes, map, [], ◌∷◌, refl}
use Rattle.std.specs.Fmt.{decimal, digits}
use Rattle.dimming_plan.specs.declared.fault.PlanFault.{PlanFault}
use Rattle.dimming_plan.specs.declared.fault.PlanFault.TheVariants as fault

-- the fault's number and name, and where it has one a space and its record; want of memory is no refusal, and has its name alone
abbrev pub fault_text : PlanFault → List ℕ
fault_text (fault.Record k) = codes "1 Record " ++ decimal k
fault_text fault.Count = codes "2 Count"
fault_text (fault.Order k) = codes "3 Order " ++ decimal k
fault_text fault.Memory = codes "Memory"

printed : map fault_text (fault.Record 5 ∷ fault.Count ∷ fault.Order 17 ∷ []) ≡ codes "1 Record 5" ∷ codes "2 Count" ∷ codes "3 Order 17" ∷ []
unfolding digits
printed = refl
