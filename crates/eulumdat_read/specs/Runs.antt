-- What the runs of lines give.
use Rattle.std.specs.Prelude.{ℕ, ◌+◌, ◌-◌, ◌*◌, ◌/◌, ◌^◌, ◌<◌, ◌≤◌, ◌≡◌, ◌≤ℤ◌, true, List, [], length, map, slice_index_or, pos, Result, Ok}
use Rattle.std.specs.Int.{div_ceil}
use Rattle.fx_base.specs.Ends.{Ends}
use Rattle.fx_base.specs.declared.Micro.{Micro}
use Rattle.photo_table.specs.Kept.{angle_of}
use Rattle.symmetry_expand.specs.declared.symmetry.Symmetry.{Symmetry}
use Rattle.symmetry_expand.specs.Measured.{AreSuited, RiseWithinTurn, first_angle, last_angle, runs_as_needed}
use Rattle.eulumdat_read.specs.Items.{fluxes_at, values_at}
use Rattle.eulumdat_read.specs.declared.fault.LdtFault.{LdtFault}

-- n angles that rise from 0 to below `least`
pub record AreAngles (n least : ℕ) (angles : List Micro) : Type 0 where
  pub count : length angles ≡ n
  pub not_negative : (i : ℕ) (d : Micro) → i < length angles → pos 0 ≤ℤ (slice_index_or angles i d).0
  pub rise : (i j : ℕ) → i < j → j < length angles → slice_index_or (map angle_of angles) i 0 < slice_index_or (map angle_of angles) j 0
  pub below : (i : ℕ) → i < length angles → slice_index_or (map angle_of angles) i 0 < least

-- n over 10^21, rounded down and up to a tick
abbrev pub span_of : ℕ → Ends
span_of n = record { lo = pos (n * 68719476736 / 1000000000000000000000); hi = pos (div_ceil (n * 68719476736) 1000000000000000000000) }

-- of n fluxes those of the first i sets were read, and of a set among them it is `flux`
pub record LitSoFar (lines : List (List ℕ)) (set n i flux : ℕ) : Type 0 where
  pub front : List ℕ
  pub so_far : fluxes_at lines 29 [] n ≡ fluxes_at lines (29 + 6 * i) front (n - i)
  pub count : length front ≡ i
  pub chosen : set ≤ i → slice_index_or front (set - 1) 0 ≡ flux
  pub small : flux ≤ 10000000000000

-- planes that can be unfolded by a symmetry
pub record AreStoredPlanes (s : Symmetry) (n : ℕ) (planes : List Micro) : Type 0 where
  pub count : length planes ≡ n
  pub rise : RiseWithinTurn planes
  pub suited : AreSuited s planes
  pub run : runs_as_needed s (first_angle planes) (last_angle planes) ≡ true

-- the spans of n intensities
pub record AreSpansOf (n : ℕ) (spans : List Ends) (said : Result (List ℕ) LdtFault) : Type 0 where
  pub values : List ℕ
  pub is : said ≡ Ok values
  pub are : spans ≡ map span_of values
  pub small : (j : ℕ) → j < length values → slice_index_or values j 0 ≤ 10 ^ 28
  pub count : length values ≡ n

-- of n intensities from line k on those before number i are in `spans`
pub record ReadSoFar (lines : List (List ℕ)) (k factor n i : ℕ) (spans : List Ends) : Type 0 where
  pub front : List ℕ
  pub so_far : values_at lines k factor [] n ≡ values_at lines (k + i) factor front (n - i)
  pub are : spans ≡ map span_of front
  pub small : (j : ℕ) → j < length front → slice_index_or front j 0 ≤ 10 ^ 28
  pub count : length front ≡ i
