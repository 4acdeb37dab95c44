-- The grammar: what an accepted file is, item by item. Numbers are in millionths.
use Rattle.std.specs.Prelude.{ℕ, ◌+◌, ◌-◌, ◌*◌, ◌^◌, ◌<◌, ◌≤◌, ◌≡◌, ◌↔◌, ◌⊎◌, Bool, true, false, List, [], length, drop, slice_index_or, codes, ℤ, pos, ◌<ℤ◌, Ok, Some}
use Rattle.decimal_text.specs.Numbers.{number}
use Rattle.decimal_text.specs.declared.number.Mark.TheVariants.{Point}
use Rattle.fx_base.specs.declared.micro.Micro.{Micro}
use Rattle.symmetry_expand.specs.declared.symmetry.Symmetry.{Symmetry}
use Rattle.lm63_read.specs.declared.head.Header.{Header}
use Rattle.lm63_read.specs.declared.head.Header.TheVariants.{Of1991, Of1995, Of2002}
use Rattle.lm63_read.specs.Items.{items_of}
use Rattle.lm63_read.specs.Head.{file_of, first_line, next_lines, tilt_from, trimmed}
use Rattle.lm63_read.specs.Angles.{micro, symmetry_of}
use Rattle.lm63_read.specs.Files.{ies, IesFile}

-- item k is there, and is the number z
pub record Says (items : List (List ℕ)) (k : ℕ) (z : ℤ) : Type 0 where
  pub there : k ≤ length items
  pub is : number Point (slice_index_or items (k - 1) []) ≡ Ok z

-- it is the number n, from the least to the greatest
pub record SaysIn (items : List (List ℕ)) (k low high n : ℕ) : Type 0 where
  pub says : Says items k (pos n)
  pub least : low ≤ n
  pub most : n ≤ high

-- so many items of the tilt stand in front of the others: its geometry, a count m, m angles and m factors
pub data IsShift (items : List (List ℕ)) : Bool → ℕ → Type 0 where
  none : IsShift items false 0
  included : (m : ℕ) → SaysIn items 2 0 1000000000 (m * 1000000) → IsShift items true (2 + 2 * m)

-- item k is a further factor under the oldest header; the others have none, which is 1
abbrev pub IsFurther : Header → List (List ℕ) → ℕ → ℕ → Type 0
IsFurther Of1991 items k n = SaysIn items k 0 2000000 n
IsFurther Of1995 items k n = n ≡ 1000000
IsFurther Of2002 items k n = n ≡ 1000000

abbrev pub angle : List Micro → ℕ → ℤ
angle xs i = (slice_index_or xs i (micro (pos 0))).0

abbrev pub IsDegrees : ℕ → ℤ → Type 0
IsDegrees d z = z ≡ pos (d * 1000000)

-- n angles from item k on, which rise from 0 or 90
pub record AreAngles (items : List (List ℕ)) (k n : ℕ) (xs : List Micro) : Type 0 where
  pub size : length xs ≡ n
  pub each : (i : ℕ) → i < n → Says items (k + i) (angle xs i)
  pub first : IsDegrees 0 (angle xs 0) ⊎ IsDegrees 90 (angle xs 0)
  pub rise : (i : ℕ) → i + 1 < n → angle xs i <ℤ angle xs (i + 1)

-- the vertical ones end at 90 or 180
pub record AreVerticals (items : List (List ℕ)) (k n : ℕ) (xs : List Micro) : Type 0 where
  pub angles : AreAngles items k n xs
  pub last : IsDegrees 90 (angle xs (n - 1)) ⊎ IsDegrees 180 (angle xs (n - 1))

-- the horizontal ones run from where a symmetry has them begin to where it has them end
pub record AreHorizontals (items : List (List ℕ)) (k n : ℕ) (xs : List Micro) : Type 0 where
  pub angles : AreAngles items k n xs
  pub symmetry : Symmetry
  pub is : symmetry_of n (angle xs 0) (angle xs (n - 1)) ≡ Some symmetry

-- v is what item k says times the factor, and at most 10,000,000 candela
pub record IsProduct (items : List (List ℕ)) (k factor v : ℕ) : Type 0 where
  pub value : ℕ
  pub says : Says items k (pos value)
  pub product : v ≡ value * factor
  pub most : v ≤ 10 ^ 31

pub record AreProducts (items : List (List ℕ)) (k n factor : ℕ) (vs : List ℕ) : Type 0 where
  pub size : length vs ≡ n
  pub each : (i : ℕ) → i < n → IsProduct items (k + i) factor (slice_index_or vs i 0)

-- the items, under a header and with the tilt among them or not, are those of a file
pub record FitsIes (header : Header) (items : List (List ℕ)) (tilted : Bool) (f : IesFile) : Type 0 where
  pub shift : ℕ
  pub multiplier : ℕ
  pub gammas : ℕ
  pub planes : ℕ
  pub ballast : ℕ
  pub further : ℕ
  pub shift_is : IsShift items tilted shift
  pub multiplier_is : SaysIn items (shift + 3) 0 10000000000 multiplier
  pub gammas_are : SaysIn items (shift + 4) 2000000 721000000 (gammas * 1000000)
  pub planes_are : SaysIn items (shift + 5) 1000000 721000000 (planes * 1000000)
  pub type_is : Says items (shift + 6) (pos 1000000)
  pub ballast_is : SaysIn items (shift + 11) 0 10000000 ballast
  pub further_is : IsFurther header items (shift + 12) further
  pub verticals_are : AreVerticals items (shift + 14) gammas f.verticals
  pub horizontals_are : AreHorizontals items (shift + 14 + gammas) planes f.horizontals
  pub values_are : AreProducts items (shift + 14 + gammas + planes) (planes * gammas) (multiplier * ballast * further) f.values
  pub size : length items ≡ shift + 13 + gammas + planes + planes * gammas

-- a file is read exactly where it fits, and then to what it says
abbrev pub IesIsFit : Type 0
IesIsFit = (header : Header) (items : List (List ℕ)) (tilted : Bool) (f : IesFile) → (ies header items tilted ≡ Ok f) ↔ FitsIes header items tilted f

-- ---- the lines before the items

-- the edition that a first line names
abbrev pub Names : List ℕ → Header → Type 0
Names text Of2002 = text ≡ codes "IESNA:LM-63-2002"
Names text Of1995 = text ≡ codes "IESNA:LM-63-1995"
Names text Of1991 = text ≡ codes "IESNA91"

-- what follows `TILT=`, where the tilt is among the items and where there is none
abbrev pub IsTilt : List ℕ → Bool → Type 0
IsTilt text true = text ≡ codes "INCLUDE"
IsTilt text false = text ≡ codes "NONE"

pub record FitsFile (bytes : List ℕ) (f : IesFile) : Type 0 where
  pub header : Header
  pub lines : List ℕ
  pub included : Bool
  pub names : Names (trimmed (first_line bytes)) header
  pub from_tilt : tilt_from true (next_lines bytes) ≡ Some lines
  pub tilt : IsTilt (drop 5 (trimmed (first_line lines))) included
  pub fits : FitsIes header (items_of (next_lines lines)) included f

abbrev pub FileIsFit : Type 0
FileIsFit = (bytes : List ℕ) (f : IesFile) → (file_of bytes ≡ Ok f) ↔ FitsFile bytes f
