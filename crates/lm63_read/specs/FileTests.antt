-- Whole files, read. Intensities are in candela over 10^24.
use Rattle.std.specs.Prelude.{ℕ, ◌≡◌, ◌*◌, ◌^◌, ◌++◌, ◌∷◌, [], List, map, flat_map, length, refl, codes, Result, Ok, Err, pos}
use Rattle.decimal_text.specs.Lines.{line}
use Rattle.decimal_text.specs.Numbers.{number, spelled}
use Rattle.fx_base.specs.declared.micro.Micro.{Micro}
use Rattle.lm63_read.specs.declared.angles.AngleKind.{AngleKind}
use Rattle.lm63_read.specs.declared.angles.AngleKind.TheVariants.{Vertical, Horizontal}
use Rattle.lm63_read.specs.declared.fault.IesFault.{IesFault}
use Rattle.lm63_read.specs.declared.fault.IesFault.TheVariants as fault
use Rattle.lm63_read.specs.Items.{items_of, pieces}
use Rattle.lm63_read.specs.Reads.{item_at, number_at, measured_at, count_at, type_at}
use Rattle.lm63_read.specs.Angles.{fits, angle_at, angles_at}
use Rattle.lm63_read.specs.Values.{value_at, values_at}
use Rattle.lm63_read.specs.Sizes.{shift_of, sizes_of}
use Rattle.lm63_read.specs.Files.{IesFile, table_at, ies}
use Rattle.lm63_read.specs.Head.{header_of, tilt_from, tilted, file_of}

unfoldable of_files : Unit {0}
unfolding number spelled items_of pieces item_at number_at measured_at count_at type_at fits angle_at angles_at value_at values_at shift_of sizes_of table_at ies header_of tilt_from tilted file_of
of_files = tt

abbrev degrees : ℕ → Micro
degrees d = record { 0 = pos (d * 1000000) }

-- ---- runs of angles from item 1 on

abbrev read_angles : AngleKind → List ℕ → Result (List Micro) IesFault
unfolding of_files
read_angles kind text = let items = items_of text in angles_at kind items 1 [] (length items)

abbrev angles : List ℕ → Result (List Micro) IesFault
angles ds = Ok (map degrees ds)

abbrev no_angle : ℕ → Result (List Micro) IesFault
no_angle k = Err (fault.Angles k)

-- each line of the table: all round, a quarter, a half, a turn without its end and with it, and the half round 180
horizontal_runs :
    map (read_angles Horizontal) (codes "0" ∷ codes "0 45 90" ∷ codes "0 180" ∷ codes "0 90 270" ∷ codes "0 180 360" ∷ codes "90 180 270" ∷ [])
    ≡ angles (0 ∷ []) ∷ angles (0 ∷ 45 ∷ 90 ∷ []) ∷ angles (0 ∷ 180 ∷ []) ∷ angles (0 ∷ 90 ∷ 270 ∷ []) ∷ angles (0 ∷ 180 ∷ 360 ∷ []) ∷ angles (90 ∷ 180 ∷ 270 ∷ []) ∷ []
unfolding of_files
horizontal_runs = refl

-- the first isn't 0 or 90; one doesn't rise; the last is none of those
no_horizontal_runs :
    map (read_angles Horizontal) (codes "5" ∷ codes "45 90" ∷ codes "-90 90" ∷ codes "0 90 90" ∷ codes "0 180 90" ∷ codes "90" ∷ codes "0 45" ∷ codes "0 361" ∷ codes "90 180" ∷ codes "90 360" ∷ [])
    ≡ no_angle 1 ∷ no_angle 1 ∷ no_angle 1 ∷ no_angle 3 ∷ no_angle 3 ∷ no_angle 1 ∷ no_angle 2 ∷ no_angle 2 ∷ no_angle 2 ∷ no_angle 2 ∷ []
unfolding of_files
no_horizontal_runs = refl

vertical_runs :
    map (read_angles Vertical) (codes "0 90" ∷ codes "0 100 180" ∷ codes "90 180" ∷ codes "0 45" ∷ codes "10 90" ∷ codes "0 0 90" ∷ codes "0 181" ∷ codes "0 90.0000001" ∷ [])
    ≡ angles (0 ∷ 90 ∷ []) ∷ angles (0 ∷ 100 ∷ 180 ∷ []) ∷ angles (90 ∷ 180 ∷ []) ∷ no_angle 2 ∷ no_angle 1 ∷ no_angle 2 ∷ no_angle 2 ∷ angles (0 ∷ 90 ∷ []) ∷ []
unfolding of_files
vertical_runs = refl

-- ---- a file of one plane and two gammas, and what is changed in it

abbrev lines : List (List ℕ) → List ℕ
lines texts = flat_map line texts

-- the first line, what follows `TILT=`, and the items
abbrev file : List ℕ → List ℕ → List ℕ → List ℕ
file header tilt items = lines (header ∷ codes "[TEST] 1 2 3" ∷ codes "4 5 6" ∷ (codes "TILT=" ++ tilt) ∷ items ∷ [])

abbrev of_2002 : List ℕ → List ℕ
of_2002 items = file (codes "IESNA:LM-63-2002") (codes "NONE") items

abbrev candela : ℕ → Result IesFile IesFault
candela n = Ok (record { verticals = degrees 0 ∷ degrees 180 ∷ []; horizontals = degrees 0 ∷ []; values = n * 10 ^ 24 ∷ n * 10 ^ 24 ∷ [] })

abbrev refused : IesFault → Result IesFile IesFault
refused e = Err e

abbrev plain_items : List ℕ
plain_items = codes "1 -1 1 2 1 1 2 0 0 0 1 1 0 0 180 0 200 200"

separated :
    map file_of (of_2002 plain_items ∷ of_2002 (codes "1,-1,1,2,1,1,2,0,0,0,1,1,0,0,180,0,200,200") ∷ [])
    ≡ candela 200 ∷ candela 200 ∷ []
unfolding of_files
separated = refl

-- an item short, one more, an angle, the types of the photometry, and numbers out of their ranges
refused_items :
    map file_of (of_2002 (codes "1 -1 1 2 1 1 2 0 0 0 1 1 0 0 180 0 200") ∷ of_2002 (plain_items ++ codes " 7")
    ∷ of_2002 (codes "1 -1 1 2 1 1 2 0 0 0 1 1 0 0 180 5 200 200") ∷ of_2002 (codes "1 -1 1 2 1 2") ∷ of_2002 (codes "1 -1 1 2 1 3")
    ∷ of_2002 (codes "1 -1 1 2 1 4") ∷ of_2002 (codes "1 -1 1e3") ∷ of_2002 (codes "1 -1 10000.1") ∷ of_2002 (codes "1 -1 1234567890")
    ∷ of_2002 (codes "1 -1 1 1") ∷ of_2002 (codes "1 -1 1 2.5") ∷ of_2002 (codes "1 -1 1 2 722") ∷ of_2002 (codes "1 -1 1 2 1 1 2 0 0 0 10.5") ∷ [])
    ≡ refused (fault.Short 18) ∷ refused (fault.Trailing 19) ∷ refused (fault.Angles 16) ∷ refused fault.PhotometricType ∷ refused fault.PhotometricType
    ∷ refused (fault.Range 6) ∷ refused (fault.Number 3) ∷ refused (fault.Range 3) ∷ refused (fault.Range 3)
    ∷ refused (fault.Range 4) ∷ refused (fault.Range 4) ∷ refused (fault.Range 5) ∷ refused (fault.Range 11) ∷ []
unfolding of_files
refused_items = refl

-- 1000 times 10000 times 1 is the most that is let through
intensities :
    map file_of (of_2002 (codes "1 -1 10000 2 1 1 2 0 0 0 1 1 0 0 180 0 1000 1000") ∷ of_2002 (codes "1 -1 10000 2 1 1 2 0 0 0 1 1 0 0 180 0 1000 1000.000001")
    ∷ of_2002 (codes "1 -1 1 2 1 1 2 0 0 0 1 1 0 0 180 0 -1 200") ∷ of_2002 (codes "1 -1 2 2 1 1 2 0 0 0 .5 1 0 0 180 0 300 300") ∷ [])
    ≡ candela 10000000 ∷ refused (fault.Intensity 18) ∷ refused (fault.Negative 17) ∷ candela 300 ∷ []
unfolding of_files
intensities = refl

-- item 12 is a factor under the oldest header alone
headers :
    map (λ h. file_of (file h (codes "NONE") (codes "1 -1 1 2 1 1 2 0 0 0 1 .5 0 0 180 0 200 200")))
    (codes "IESNA:LM-63-2002" ∷ codes "IESNA:LM-63-1995 " ∷ codes "IESNA91" ∷ codes "IESNA:LM-63-1986" ∷ codes " IESNA91" ∷ [] ∷ [])
    ≡ candela 200 ∷ candela 200 ∷ candela 100 ∷ refused fault.Version ∷ refused fault.Version ∷ refused fault.Version ∷ []
unfolding of_files
headers = refl

further_factor :
    map (λ h. file_of (file h (codes "NONE") (codes "1 -1 1 2 1 1 2 0 0 0 1 3 0 0 180 0 200 200"))) (codes "IESNA:LM-63-1995" ∷ codes "IESNA91" ∷ [])
    ≡ candela 200 ∷ refused (fault.Range 12) ∷ []
unfolding of_files
further_factor = refl

-- with no angles and no factors the tilt has two items, and with one of each four
tilts :
    map (λ t. file_of (file (codes "IESNA91") t (codes "1 0 1 -1 1 2 1 1 2 0 0 0 1 1 0 0 180 0 200 200"))) (codes "INCLUDE" ∷ codes "x.tlt" ∷ codes "none" ∷ [] ∷ [])
    ≡ candela 200 ∷ refused fault.TiltFile ∷ refused fault.TiltFile ∷ refused fault.TiltFile ∷ []
unfolding of_files
tilts = refl

tilts_shift :
    map (λ items. file_of (file (codes "IESNA91") (codes "INCLUDE") items)) ((codes "1 1 0 1 " ++ plain_items) ∷ (codes "1 1 0 1 " ++ codes "1 -1 1 2 1 1 2 0 0 0 1 1 0 0 180 0 200") ∷ codes "1 1001" ∷ codes "1 1 0" ∷ [])
    ≡ candela 200 ∷ refused (fault.Short 22) ∷ refused (fault.Range 2) ∷ refused (fault.Short 4) ∷ []
unfolding of_files
tilts_shift = refl

no_tilt : file_of (lines (codes "IESNA91" ∷ codes "TILT NONE" ∷ codes " TILT=NONE" ∷ [])) ≡ Err fault.NoTilt
unfolding of_files
no_tilt = refl
