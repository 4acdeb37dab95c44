-- How a refused file is printed.
use Rattle.std.specs.Prelude.{ℕ, List, ◌++◌, ◌≡◌, codes, map, [], ◌∷◌, refl}
use Rattle.std.specs.Fmt.{decimal, digits}
use Rattle.lm63_read.specs.declared.fault.IesFault.{IesFault}
use Rattle.lm63_read.specs.declared.fault.IesFault.TheVariants as fault

-- the fault's number and name, and where it has one a space and its item; want of memory is no refusal, and has its name alone
abbrev pub fault_text : IesFault → List ℕ
fault_text fault.Version = codes "1 Version"
fault_text fault.NoTilt = codes "2 NoTilt"
fault_text fault.TiltFile = codes "3 TiltFile"
fault_text (fault.Short k) = codes "4 Short " ++ decimal k
fault_text (fault.Number k) = codes "5 Number " ++ decimal k
fault_text (fault.Range k) = codes "6 Range " ++ decimal k
fault_text fault.PhotometricType = codes "7 PhotometricType"
fault_text (fault.Angles k) = codes "8 Angles " ++ decimal k
fault_text (fault.Negative k) = codes "9 Negative " ++ decimal k
fault_text (fault.Intensity k) = codes "10 Intensity " ++ decimal k
fault_text (fault.Trailing k) = codes "11 Trailing " ++ decimal k
fault_text fault.Memory = codes "Memory"

printed :
    map fault_text (fault.Version ∷ fault.Short 18 ∷ fault.PhotometricType ∷ fault.Angles 16 ∷ fault.Trailing 19 ∷ [])
    ≡ codes "1 Version" ∷ codes "4 Short 18" ∷ codes "7 PhotometricType" ∷ codes "8 Angles 16" ∷ codes "11 Trailing 19" ∷ []
unfolding digits
printed = refl
