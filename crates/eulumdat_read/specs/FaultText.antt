-- How a refused file is printed.
use Rattle.std.specs.Prelude.{ℕ, List, ◌++◌, ◌≡◌, codes, map, [], ◌∷◌, refl}
use Rattle.std.specs.Fmt.{decimal, digits}
use Rattle.symmetry_expand.specs.declared.symmetry.ExpandFault.{ExpandFault}
use Rattle.symmetry_expand.specs.declared.symmetry.ExpandFault.TheVariants as expand
use Rattle.eulumdat_read.specs.declared.fault.LdtFault.{LdtFault}
use Rattle.eulumdat_read.specs.declared.fault.LdtFault.TheVariants as fault

-- why planes don't make a table; want of memory is no refusal, and has its name alone
abbrev pub expand_text : ExpandFault → List ℕ
expand_text expand.PlaneCount = codes "1 PlaneCount"
expand_text expand.PlaneAngle = codes "2 PlaneAngle"
expand_text expand.Memory = codes "Memory"

-- the fault's number and name, and where it has one a space and its line
abbrev pub fault_text : LdtFault → List ℕ
fault_text (fault.Short k) = codes "1 Short " ++ decimal k
fault_text (fault.Number k) = codes "2 Number " ++ decimal k
fault_text (fault.Range k) = codes "3 Range " ++ decimal k
fault_text fault.NoLampSet = codes "4 NoLampSet"
fault_text (fault.Order k) = codes "5 Order " ++ decimal k
fault_text (fault.Negative k) = codes "6 Negative " ++ decimal k
fault_text (fault.Expand e) = codes "7 Expand " ++ expand_text e
fault_text (fault.Intensity k) = codes "8 Intensity " ++ decimal k
fault_text (fault.Trailing k) = codes "9 Trailing " ++ decimal k
fault_text fault.Memory = codes "Memory"

printed :
    map fault_text (fault.Short 47 ∷ fault.NoLampSet ∷ fault.Expand expand.PlaneCount ∷ fault.Expand expand.PlaneAngle ∷ fault.Trailing 48 ∷ [])
    ≡ codes "1 Short 47" ∷ codes "4 NoLampSet" ∷ codes "7 Expand 1 PlaneCount" ∷ codes "7 Expand 2 PlaneAngle" ∷ codes "9 Trailing 48" ∷ []
unfolding digits
printed = refl
