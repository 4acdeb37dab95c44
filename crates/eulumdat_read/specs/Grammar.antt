-- The grammar: what an accepted file is, by the numbers of its lines. Lines and lamp sets are counted from 1, numbers are in millionths.
use Rattle.std.specs.Prelude.{ℕ, ◌+◌, ◌-◌, ◌*◌, ◌/◌, ◌%◌, ◌^◌, ◌<◌, ◌≤◌, ◌≡◌, ◌↔◌, true, List, [], ◌++◌, length, map, take, drop, slice_index_or, ℤ, pos, negsuc, ◌<ℤ◌, ◌≤ℤ◌, ◌-ℤ◌, Ok}
use Rattle.std.specs.List.{list_all}
use Rattle.decimal_text.specs.Numbers.{number}
use Rattle.decimal_text.specs.declared.number.Mark.TheVariants.{PointOrComma}
use Rattle.fx_base.specs.declared.Micro.{Micro}
use Rattle.symmetry_expand.specs.declared.symmetry.Symmetry.{Symmetry}
use Rattle.symmetry_expand.specs.declared.symmetry.Symmetry.TheVariants.{None, Axis, Plane0, Plane90, Both}
use Rattle.symmetry_expand.specs.Measured.{first_angle, last_angle, no_angle}
use Rattle.symmetry_expand.specs.Stored.{multiple_of, stored_count}
use Rattle.eulumdat_read.specs.Ldt.{ldt, LdtFile}
use Rattle.eulumdat_read.specs.Lines.{is_blank_byte, trimmed}

-- ---- one line

abbrev pub text_of : List (List ℕ) → ℕ → List ℕ
text_of lines k = slice_index_or lines (k - 1) []

-- line k is there and says the number z, with spaces and tabs around it or not
pub record Says (lines : List (List ℕ)) (k : ℕ) (z : ℤ) : Type 0 where
  pub there : k ≤ length lines
  pub is : number PointOrComma (trimmed (text_of lines k)) ≡ Ok z

-- it is the number n, from the least to the greatest
pub record SaysIn (lines : List (List ℕ)) (k low high n : ℕ) : Type 0 where
  pub says : Says lines k (pos n)
  pub least : low ≤ n
  pub most : n ≤ high

-- it is the whole number n, from the least to the greatest
abbrev pub Counts : List (List ℕ) → ℕ → ℕ → ℕ → ℕ → Type 0
Counts lines k low high n = SaysIn lines k (low * 1000000) (high * 1000000) (n * 1000000)

-- nothing but spaces, tabs, CR and bytes 0x1A stands in line k
abbrev pub IsBlank : List (List ℕ) → ℕ → Type 0
IsBlank lines k = list_all is_blank_byte (text_of lines k) ≡ true

-- ---- symmetry

-- the symmetry indicator, Isym
abbrev pub indicator : Symmetry → ℕ
indicator None = 0
indicator Axis = 1
indicator Plane0 = 2
indicator Plane90 = 3
indicator Both = 4

abbrev pub less_a_turn : Micro → Micro
less_a_turn a = record { 0 = a.0 -ℤ pos 360000000 }

-- of all angles C those whose planes the file has: all, the first one, the first half, the last quarter, a turn earlier, and then
-- the first one, or the first quarter, each with the plane at its end
abbrev pub AreStored : Symmetry → List Micro → List Micro → Type 0
AreStored None angles stored = stored ≡ angles
AreStored Axis angles stored = stored ≡ take 1 angles
AreStored Plane0 angles stored = stored ≡ take (length angles / 2 + 1) angles
AreStored Plane90 angles stored = stored ≡ map less_a_turn (drop (3 * length angles / 4) angles) ++ take (length angles / 4 + 1) angles
AreStored Both angles stored = stored ≡ take (length angles / 4 + 1) angles

-- from the first of these planes to the last, in degrees
abbrev pub Run : ℤ → ℤ → List Micro → Type 0
Run from to stored = (first_angle stored ≡ from) × (last_angle stored ≡ to)

abbrev pub RunAsNeeded : Symmetry → List Micro → Type 0
RunAsNeeded None stored = Unit {0}
RunAsNeeded Axis stored = Unit {0}
RunAsNeeded Plane0 stored = Run (pos 0) (pos 180000000) stored
RunAsNeeded Plane90 stored = Run (negsuc 89999999) (pos 90000000) stored
RunAsNeeded Both stored = Run (pos 0) (pos 90000000) stored

-- ---- runs of lines

abbrev pub angle : List Micro → ℕ → ℤ
angle xs i = (slice_index_or xs i no_angle).0

-- n lines from the first one say the angles xs, which rise within 0 to the greatest
pub record SayAngles (lines : List (List ℕ)) (first n high : ℕ) (xs : List Micro) : Type 0 where
  pub size : length xs ≡ n
  pub each : (i : ℕ) → i < n → Says lines (first + i) (angle xs i)
  pub least : (i : ℕ) → i < n → pos 0 ≤ℤ angle xs i
  pub most : (i : ℕ) → i < n → angle xs i ≤ℤ pos high
  pub rise : (i : ℕ) → i + 1 < n → angle xs i <ℤ angle xs (i + 1)

-- lamp set k has the total flux n, in the third of its six lines
abbrev pub HasFlux : List (List ℕ) → ℕ → ℕ → Type 0
HasFlux lines k n = SaysIn lines (23 + 6 * k) 0 10000000000000 n

-- v is the intensity that line k says times the factor, at most 10,000,000 candela over 10^21
pub record IsIntensity (lines : List (List ℕ)) (k factor v : ℕ) : Type 0 where
  pub value : ℕ
  pub says : Says lines k (pos value)
  pub product : v ≡ value * factor
  pub most : v ≤ 10 ^ 28

-- the lines from the first one have the intensities vs, plane by plane, and in each plane gamma by gamma
pub record SayIntensities (lines : List (List ℕ)) (first planes gammas factor : ℕ) (vs : List ℕ) : Type 0 where
  pub size : length vs ≡ planes * gammas
  pub each : (p g : ℕ) → p < planes → g < gammas → IsIntensity lines (first + p * gammas + g) factor (slice_index_or vs (p * gammas + g) 0)

-- ---- the whole file

-- for a lamp set the lines are those of a file. An intensity is the line's value times the conversion factor times the flux of the
-- set by 1000; three numbers in millionths make it a number over 10^21
pub record FitsLdt (lines : List (List ℕ)) (set : ℕ) (f : LdtFile) : Type 0 where
  pub planes : ℕ
  pub gammas : ℕ
  pub factor : ℕ
  pub sets : ℕ
  pub flux : ℕ
  pub angles : List Micro
  pub indicator_is : Counts lines 3 0 4 (indicator f.symmetry)
  pub planes_are : Counts lines 4 1 720 planes
  pub planes_fit : planes % multiple_of f.symmetry ≡ 0
  pub gammas_are : Counts lines 6 2 721 gammas
  pub factor_is : SaysIn lines 24 0 1000000000 factor
  pub sets_are : Counts lines 26 1 20 sets
  pub chosen : set ≤ sets
  pub lit : (k : ℕ) → 1 ≤ k → k ≤ sets → (n : ℕ) × HasFlux lines k n
  pub flux_is : HasFlux lines set flux
  pub angles_are : SayAngles lines (37 + 6 * sets) planes 359999999 angles
  pub stored : AreStored f.symmetry angles f.planes
  pub run : RunAsNeeded f.symmetry f.planes
  pub gamma_angles : SayAngles lines (37 + 6 * sets + planes) gammas 180000000 f.gammas
  pub values : SayIntensities lines (37 + 6 * sets + planes + gammas) (stored_count f.symmetry planes) gammas (factor * flux) f.values
  pub rest : (k : ℕ) → 37 + 6 * sets + planes + gammas + stored_count f.symmetry planes * gammas ≤ k → k ≤ length lines → IsBlank lines k

-- lines are read for a lamp set exactly where they fit, and then to what they say
abbrev pub LdtIsFit : Type 0
LdtIsFit = (lines : List (List ℕ)) (set : ℕ) (f : LdtFile) → 1 ≤ set → (ldt lines set ≡ Ok f) ↔ FitsLdt lines set f
