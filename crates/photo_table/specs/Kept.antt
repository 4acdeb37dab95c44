-- What the lists of a table keep, and how near its answers are.
use Rattle.std.specs.Prelude.{ℕ, ◌+◌, ◌-◌, ◌*◌, ◌<◌, ◌≤◌, ◌≡◌, ◌≤ℤ◌, pos, List, [], ◌∷◌, ◌++◌, length, map, slice_index_or, codes, decimal}
use Rattle.fx_base.specs.Rounded.{hundredths_below, hundredths_above}
use Rattle.fx_base.specs.Fraction.{Fraction, ◌≤ᶠ◌, whole}
use Rattle.fx_base.specs.Interval.{Interval, exact}
use Rattle.fx_base.specs.Ends.{Ends}
use Rattle.fx_base.specs.Units.{natural, ticks, of_span}
use Rattle.fx_base.specs.declared.Micro.{Micro}
use Rattle.decimal_text.specs.Decimals.{hundredths}
use Rattle.decimal_text.specs.Lines.{line}
use Rattle.photo_table.specs.Table.{Table, IsTable, lower, upper}

abbrev pub angle_of : Micro → ℕ
angle_of m = natural m.0

-- the table that the lists of a program say
abbrev pub table_of : List Micro → List Micro → List Ends → Table
table_of planes gammas values = record { planes = map angle_of planes; gammas = map angle_of gammas; values = map of_span values }

-- the planes of a table: at least one, and they rise from 0 to below 360 degrees
pub record ArePlanes (planes : List Micro) : Type 0 where
  pub some : 0 < length planes
  pub not_negative : (i : ℕ) (d : Micro) → i < length planes → pos 0 ≤ℤ (slice_index_or planes i d).0
  pub rise : (i j : ℕ) → i < j → j < length planes → slice_index_or (map angle_of planes) i 0 < slice_index_or (map angle_of planes) j 0
  pub below : (i : ℕ) → i < length planes → slice_index_or (map angle_of planes) i 0 < 360000000

-- its gammas: at least two, and they rise from 0 to 180 degrees
pub record AreGammas (gammas : List Micro) : Type 0 where
  pub two : 2 ≤ length gammas
  pub not_negative : (i : ℕ) (d : Micro) → i < length gammas → pos 0 ≤ℤ (slice_index_or gammas i d).0
  pub rise : (i j : ℕ) → i < j → j < length gammas → slice_index_or (map angle_of gammas) i 0 < slice_index_or (map angle_of gammas) j 0
  pub up_to : (i : ℕ) → i < length gammas → slice_index_or (map angle_of gammas) i 0 ≤ 180000000

-- its intensities: from 0 to 10,000,000 candela
pub record AreIntensities (values : List Ends) : Type 0 where
  pub not_negative : (i : ℕ) (d : Ends) → i < length values → pos 0 ≤ℤ (slice_index_or values i d).lo
  pub high : (i : ℕ) (d : Ends) → i < length values → natural (slice_index_or values i d).hi ≤ 687194767360000000

-- the lower end of each is at most the upper one
pub record AreInOrder (values : List Ends) : Type 0 where
  pub each : (i : ℕ) (d : Ends) → i < length values → (slice_index_or values i d).lo ≤ℤ (slice_index_or values i d).hi

-- ---- what a grid keeps of them

-- from 0 to 10,000,000 candela
pub record IsIntensity (e : Ends) : Type 0 where
  pub not_negative : pos 0 ≤ℤ e.lo
  pub in_order : e.lo ≤ℤ e.hi
  pub high : natural e.hi ≤ 687194767360000000

-- a table of intensities up to 10,000,000 candela in half-planes from 0 to below 360 degrees
pub record IsKept (planes gammas : List Micro) (values : List Ends) : Type 0 where
  pub is_table : IsTable (table_of planes gammas values)
  pub planes_not_negative : (i : ℕ) (d : Micro) → i < length planes → pos 0 ≤ℤ (slice_index_or planes i d).0
  pub planes_below : (i : ℕ) → i < length planes → slice_index_or (map angle_of planes) i 0 < 360000000
  pub gammas_not_negative : (i : ℕ) (d : Micro) → i < length gammas → pos 0 ≤ℤ (slice_index_or gammas i d).0
  pub intensities : (i : ℕ) (d : Ends) → i < length values → IsIntensity (slice_index_or values i d)

abbrev pub ticks_between : ℕ → ℕ → Interval
ticks_between low high = record { lo = ticks low; hi = ticks high }

-- f and g rounded outward, each by at most a tick
pub record Rounds (f g : Fraction) (lo hi : ℕ) : Type 0 where
  pub low : ticks lo ≤ᶠ f
  pub low_near : f ≤ᶠ ticks (lo + 1)
  pub high : g ≤ᶠ ticks hi
  pub high_near : ticks (hi - 1) ≤ᶠ g
  pub in_order : lo ≤ hi

-- x is the greatest of one end of a table's intensities
pub record IsGreatest (end : Interval → Fraction) (t : Table) (x : Fraction) : Type 0 where
  pub all : (k : ℕ) → k < length t.values → end (slice_index_or t.values k (exact (whole 0))) ≤ᶠ x
  pub place : ℕ
  pub within : place < length t.values
  pub is : end (slice_index_or t.values place (exact (whole 0))) ≡ x

-- the table of one intensity in all directions
abbrev pub even_table : ℕ → Table
even_table candela = record {
  planes = 0 ∷ [];
  gammas = 0 ∷ 180000000 ∷ [];
  values = ticks_between (candela * 68719476736) (candela * 68719476736) ∷ ticks_between (candela * 68719476736) (candela * 68719476736) ∷ [];
}

-- ---- the summary

-- how many planes and gammas, and the greatest intensity between the two numbers that are printed of it
abbrev pub summary_line : Table → ℕ → ℕ → List ℕ
summary_line t low high =
    line (codes "planes " ++ decimal (length t.planes) ++ codes " gammas " ++ decimal (length t.gammas)
    ++ codes " greatest " ++ hundredths (hundredths_below low) ++ codes " " ++ hundredths (hundredths_above high))

-- the text is that line for the greatest lower and the greatest upper end
pub record IsSummary (t : Table) (text : List ℕ) : Type 0 where
  pub low : ℕ
  pub high : ℕ
  pub low_is : IsGreatest lower t (ticks low)
  pub high_is : IsGreatest upper t (ticks high)
  pub text_is : text ≡ summary_line t low high
