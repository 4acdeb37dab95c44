-- Whole files, read, and the words of the grammar on short runs. Intensities are in candela over 10^21.
use Rattle.std.specs.Prelude.{ℕ, ◌≡◌, ◌*◌, ◌^◌, ◌++◌, ◌∷◌, [], List, Result, Ok, Err, codes, map, pos, refl, replicate, take}
use Rattle.decimal_text.specs.Lines.{line}
use Rattle.decimal_text.specs.Numbers.{number, spelled}
use Rattle.fx_base.specs.declared.Micro.{Micro}
use Rattle.symmetry_expand.specs.AllRound.{joined}
use Rattle.symmetry_expand.specs.declared.symmetry.ExpandFault.TheVariants as expand
use Rattle.symmetry_expand.specs.declared.symmetry.Symmetry.TheVariants as symmetry
use Rattle.eulumdat_read.specs.declared.fault.LdtFault.{LdtFault}
use Rattle.eulumdat_read.specs.declared.fault.LdtFault.TheVariants as fault
use Rattle.eulumdat_read.specs.Grammar.{AreStored, RunAsNeeded, less_a_turn}
use Rattle.eulumdat_read.specs.Items.{line_at, number_at, measured_at, count_at, angles_at, fluxes_at, value_at, values_at, all_blank}
use Rattle.eulumdat_read.specs.Ldt.{LdtFile, body_of, flux_at, head_of, ldt, planes_at}
use Rattle.eulumdat_read.specs.Lines.{but_empty_last, lines_of, pieces}

unfoldable of_files : Unit {0}
unfolding number spelled joined line_at number_at measured_at count_at angles_at fluxes_at value_at values_at all_blank head_of flux_at planes_at body_of ldt
of_files = tt

unfoldable of_lines : Unit {0}
unfolding but_empty_last lines_of pieces
of_lines = tt

-- ---- lines

abbrev two_lines : List (List ℕ)
two_lines = codes "a" ∷ codes "b" ∷ []

-- by LF, by CR and LF, with a last LF and without; a CR at the end of the bytes is no line
cut_at_each_end :
    map lines_of ((codes "a" ++ 10 ∷ codes "b") ∷ (line (codes "a") ++ line (codes "b")) ∷ (codes "a" ++ 13 ∷ 10 ∷ codes "b" ++ 13 ∷ 10 ∷ []) ∷ (codes "a" ++ 10 ∷ codes "b" ++ 10 ∷ 13 ∷ []) ∷ [])
    ≡ two_lines ∷ two_lines ∷ two_lines ∷ two_lines ∷ []
unfolding of_lines
cut_at_each_end = refl

-- a CR within a line stays, and one of two at its end; an empty line counts unless it is the last
kept_in_lines :
    map lines_of ((codes "a" ++ 13 ∷ codes "b") ∷ (codes "a" ++ 13 ∷ 13 ∷ 10 ∷ []) ∷ (10 ∷ 10 ∷ codes "a") ∷ [] ∷ (13 ∷ []) ∷ [])
    ≡ ((codes "a" ++ 13 ∷ codes "b") ∷ []) ∷ ((codes "a" ++ 13 ∷ []) ∷ []) ∷ ([] ∷ [] ∷ codes "a" ∷ []) ∷ [] ∷ [] ∷ []
unfolding of_lines
kept_in_lines = refl

-- ---- a file of two gammas and one lamp set, and what is changed in it

abbrev dashes : ℕ → List (List ℕ)
dashes n = replicate n (codes "-")

-- the symmetry indicator, the number of angles C, the conversion factor, the flux, and the lines from 43 on
abbrev file : List ℕ → List ℕ → List ℕ → List ℕ → List (List ℕ) → List (List ℕ)
file isym planes factor flux rest =
    dashes 2 ++ isym ∷ planes ∷ dashes 1 ++ codes "2" ∷ dashes 17 ++ factor ∷ dashes 1 ++ codes "1" ∷ dashes 1 ++ codes "LED" ∷ flux ∷ dashes 13 ++ rest

abbrev five : List (List ℕ)
five = codes "0" ∷ codes "0" ∷ codes "180" ∷ codes "100" ∷ codes "100" ∷ []

abbrev plain : List (List ℕ)
plain = file (codes "1") (codes "1") (codes "1") (codes "2000") five

abbrev degrees : ℕ → Micro
degrees d = record { 0 = pos (d * 1000000) }

abbrev candela : ℕ → Result LdtFile LdtFault
candela n = Ok (record { symmetry = symmetry.Axis; planes = degrees 0 ∷ []; gammas = degrees 0 ∷ degrees 180 ∷ []; values = n * 10 ^ 21 ∷ n * 10 ^ 21 ∷ [] })

abbrev refused : LdtFault → Result LdtFile LdtFault
refused e = Err e

-- 100 cd for 1000 lm, at 2000 lm; half of it by a conversion factor; blank lines behind
read_whole :
    ldt plain 1 ∷ ldt (file (codes " 1") (codes "1.") (codes ",5") (codes "+2000,0") five) 1 ∷ ldt (plain ++ (32 ∷ 9 ∷ 13 ∷ 26 ∷ []) ∷ [] ∷ []) 1 ∷ []
    ≡ candela 200 ∷ candela 100 ∷ candela 200 ∷ []
unfolding of_files
read_whole = refl

-- a line short, one more that isn't blank, a set that isn't there
refused_whole :
    ldt (take 46 plain) 1 ∷ ldt (plain ++ [] ∷ codes "x" ∷ []) 1 ∷ ldt plain 2 ∷ ldt (take 25 plain) 1 ∷ []
    ≡ refused (fault.Short 47) ∷ refused (fault.Trailing 49) ∷ refused fault.NoLampSet ∷ refused (fault.Short 26) ∷ []
unfolding of_files
refused_whole = refl

-- numbers that the lines of the head can't have
refused_heads :
    map (λ isym. ldt (file isym (codes "1") (codes "1") (codes "1") five) 1) (codes "5" ∷ codes "0.5" ∷ codes "-1" ∷ codes "" ∷ [])
    ++ map (λ planes. ldt (file (codes "4") planes (codes "1") (codes "1") five) 1) (codes "6" ∷ codes "0" ∷ codes "724" ∷ codes "4 4" ∷ [])
    ++ map (λ factor. ldt (file (codes "1") (codes "1") factor (codes "1") five) 1) (codes "1000.000001" ∷ codes "1e3" ∷ codes "1234567890" ∷ [])
    ++ map (λ flux. ldt (file (codes "1") (codes "1") (codes "1") flux five) 1) (codes "10000000.1" ∷ codes "-1" ∷ [])
    ≡ refused (fault.Range 3) ∷ refused (fault.Range 3) ∷ refused (fault.Range 3) ∷ refused (fault.Number 3)
    ∷ refused (fault.Expand expand.PlaneCount) ∷ refused (fault.Range 4) ∷ refused (fault.Range 4) ∷ refused (fault.Number 4)
    ∷ refused (fault.Range 24) ∷ refused (fault.Number 24) ∷ refused (fault.Range 24)
    ∷ refused (fault.Range 29) ∷ refused (fault.Range 29) ∷ []
unfolding of_files
refused_heads = refl

-- ---- stored planes

-- four planes of which three are stored, from 270 past the last one to 90
abbrev wrapped : List (List ℕ) → List (List ℕ)
wrapped angles = file (codes "3") (codes "4") (codes "1") (codes "1000") (angles ++ codes "0" ∷ codes "90" ∷ replicate 6 (codes "7"))

wrapped_round :
    ldt (wrapped (codes "0" ∷ codes "90" ∷ codes "180" ∷ codes "270" ∷ [])) 1 ∷ ldt (wrapped (codes "0" ∷ codes "91" ∷ codes "180" ∷ codes "270" ∷ [])) 1
    ∷ ldt (wrapped (codes "0" ∷ codes "90" ∷ codes "90" ∷ codes "270" ∷ [])) 1 ∷ ldt (wrapped (codes "0" ∷ codes "90" ∷ codes "180" ∷ codes "360" ∷ [])) 1 ∷ []
    ≡ Ok (record { symmetry = symmetry.Plane90; planes = less_a_turn (degrees 270) ∷ degrees 0 ∷ degrees 90 ∷ []; gammas = degrees 0 ∷ degrees 90 ∷ []; values = replicate 6 (7 * 10 ^ 21) })
    ∷ refused (fault.Expand expand.PlaneAngle) ∷ refused (fault.Order 45) ∷ refused (fault.Range 46) ∷ []
unfolding of_files
wrapped_round = refl

abbrev eight : List Micro
eight = map degrees (0 ∷ 45 ∷ 90 ∷ 135 ∷ 180 ∷ 225 ∷ 270 ∷ 315 ∷ [])

all_of_eight : AreStored symmetry.None eight eight
all_of_eight = refl

first_of_eight : AreStored symmetry.Axis eight (map degrees (0 ∷ []))
first_of_eight = refl

half_of_eight : AreStored symmetry.Plane0 eight (map degrees (0 ∷ 45 ∷ 90 ∷ 135 ∷ 180 ∷ []))
half_of_eight = refl

quarter_of_eight : AreStored symmetry.Both eight (map degrees (0 ∷ 45 ∷ 90 ∷ []))
quarter_of_eight = refl

two_quarters_of_eight : AreStored symmetry.Plane90 eight (map less_a_turn (map degrees (270 ∷ 315 ∷ [])) ++ map degrees (0 ∷ 45 ∷ 90 ∷ []))
two_quarters_of_eight = refl

two_quarters_run : RunAsNeeded symmetry.Plane90 (map less_a_turn (map degrees (270 ∷ 315 ∷ [])) ++ map degrees (0 ∷ 45 ∷ 90 ∷ []))
two_quarters_run = (refl, refl)

-- ---- intensities

-- ten million candela, a millionth more, one below 0, none that is written
lit_last :
    map (λ v. ldt (file (codes "1") (codes "1") (codes "1000") (codes "10000000") (codes "0" ∷ codes "0" ∷ codes "180" ∷ codes "1" ∷ v ∷ [])) 1) (codes "1" ∷ codes "1.000001" ∷ codes "-0.5" ∷ codes "-" ∷ [])
    ≡ candela 10000000 ∷ refused (fault.Intensity 47) ∷ refused (fault.Negative 47) ∷ refused (fault.Number 47) ∷ []
unfolding of_files
lit_last = refl
