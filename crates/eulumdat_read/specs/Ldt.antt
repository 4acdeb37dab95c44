-- EULUMDAT, line by line: what a file says, or the fault of the first line that can't stand.
use Rattle.std.specs.Prelude.{ℕ, Bool, ◌+◌, ◌-◌, ◌*◌, ◌%◌, ◌==◌, nat_le, if◌then◌else◌, List, [], ◌∷◌, map, drop, slice_index_or, pos, int_lt, ◌-ℤ◌, Result, Ok}
use Rattle.fx_base.specs.Fraction.{ratio}
use Rattle.fx_base.specs.Interval.{exact}
use Rattle.fx_base.specs.declared.Micro.{Micro}
use Rattle.photo_table.specs.Kept.{angle_of}
use Rattle.photo_table.specs.Table.{Table}
use Rattle.symmetry_expand.specs.declared.symmetry.Symmetry.{Symmetry}
use Rattle.symmetry_expand.specs.declared.symmetry.Symmetry.TheVariants as symmetry
use Rattle.symmetry_expand.specs.declared.symmetry.ExpandFault.TheVariants as expand
use Rattle.symmetry_expand.specs.AllRound.{all_round, joined}
use Rattle.symmetry_expand.specs.Measured.{no_angle, first_angle, last_angle, lifted, runs_as_needed}
use Rattle.symmetry_expand.specs.Stored.{multiple_of, first_stored, stored_count}
use Rattle.decimal_text.specs.Steps.{◌>>=◌, demand}
use Rattle.eulumdat_read.specs.Items.{count_at, measured_at, angles_at, fluxes_at, values_at, all_blank}
use Rattle.eulumdat_read.specs.declared.fault.LdtFault.{LdtFault}
use Rattle.eulumdat_read.specs.declared.fault.LdtFault.TheVariants as fault

-- ---- lines 1 to 26

-- the symmetry indicator
abbrev pub symmetry_by : ℕ → Symmetry
symmetry_by isym =
    if isym == 0 then symmetry.None
    else (if isym == 1 then symmetry.Axis
    else (if isym == 2 then symmetry.Plane0
    else (if isym == 3 then symmetry.Plane90 else symmetry.Both)))

pub record Head : Type 0 where
  pub symmetry : Symmetry
  pub planes : ℕ
  pub gammas : ℕ
  pub factor : ℕ
  pub sets : ℕ

unfoldable pub head_of : List (List ℕ) → ℕ → Result Head LdtFault
head_of lines set = do
  isym ← count_at lines 3 0 4
  planes ← count_at lines 4 1 720
  whole ← demand (planes % multiple_of (symmetry_by isym) == 0) (fault.Expand expand.PlaneCount)
  gammas ← count_at lines 6 2 721
  factor ← measured_at lines 24 0 1000000000
  sets ← count_at lines 26 1 20
  chosen ← demand (nat_le set sets) fault.NoLampSet
  Ok (record { symmetry = symmetry_by isym; planes = planes; gammas = gammas; factor = factor; sets = sets })

-- ---- the stored planes

-- for the mirror at 90 those above 180 are handed on less a turn
abbrev pub handed_on : Symmetry → Micro → Micro
handed_on symmetry.None a = a
handed_on symmetry.Axis a = a
handed_on symmetry.Plane0 a = a
handed_on symmetry.Plane90 a = if int_lt (pos 180000000) a.0 then record { 0 = a.0 -ℤ pos 360000000 } else a
handed_on symmetry.Both a = a

-- of all angles C the stored one of number p: they run past the last to the first
abbrev pub stored_angle : Symmetry → ℕ → List Micro → ℕ → Micro
stored_angle s planes angles p = handed_on s (slice_index_or angles ((first_stored s planes - 1 + p) % planes) no_angle)

abbrev pub stored_angles : Symmetry → ℕ → List Micro → List Micro
stored_angles s planes angles = joined (λ p. stored_angle s planes angles p ∷ []) (stored_count s planes)

-- ---- the whole

-- what was measured: the stored planes, the gammas, and the intensities in candela, over 10^21
pub record LdtFile : Type 0 where
  pub symmetry : Symmetry
  pub planes : List Micro
  pub gammas : List Micro
  pub values : List ℕ

-- where the angles C, the angles G and the intensities begin, and the line after the last of these
abbrev pub planes_line : Head → ℕ
planes_line h = 37 + 6 * h.sets

abbrev pub gammas_line : Head → ℕ
gammas_line h = planes_line h + h.planes

abbrev pub values_line : Head → ℕ
values_line h = gammas_line h + h.gammas

abbrev pub value_count : Head → ℕ
value_count h = stored_count h.symmetry h.planes * h.gammas

abbrev pub end_line : Head → ℕ
end_line h = values_line h + value_count h

-- of the fluxes of all sets that of one set
unfoldable pub flux_at : List (List ℕ) → ℕ → ℕ → Result ℕ LdtFault
flux_at lines sets set = do
  fluxes ← fluxes_at lines 29 [] sets
  Ok (slice_index_or fluxes (set - 1) 0)

-- whether planes run from where the symmetry has them begin to where it has them end
abbrev pub run_well : Symmetry → List Micro → Bool
run_well s planes = runs_as_needed s (first_angle planes) (last_angle planes)

-- of all angles C the stored ones, which run as the symmetry asks
unfoldable pub planes_at : List (List ℕ) → Head → Result (List Micro) LdtFault
planes_at lines h = do
  angles ← angles_at lines (planes_line h) 359999999 0 [] h.planes
  run ← demand (run_well h.symmetry (stored_angles h.symmetry h.planes angles)) (fault.Expand expand.PlaneAngle)
  Ok (stored_angles h.symmetry h.planes angles)

unfoldable pub body_of : List (List ℕ) → ℕ → Head → Result LdtFile LdtFault
body_of lines set h = do
  flux ← flux_at lines h.sets set
  planes ← planes_at lines h
  gammas ← angles_at lines (gammas_line h) 180000000 0 [] h.gammas
  values ← values_at lines (values_line h) (h.factor * flux) [] (value_count h)
  blank ← all_blank (end_line h) (drop (end_line h - 1) lines)
  Ok (record { symmetry = h.symmetry; planes = planes; gammas = gammas; values = values })

-- the file that lines say, for a lamp set
unfoldable pub ldt : List (List ℕ) → ℕ → Result LdtFile LdtFault
ldt lines set = head_of lines set >>= body_of lines set

-- ---- its table

abbrev pub measured_exactly : LdtFile → Table
measured_exactly f = record { planes = lifted f.planes; gammas = map angle_of f.gammas; values = map (λ n. exact (ratio n 1000000000000000000000)) f.values }

-- the exact table of all planes
abbrev pub table_of_file : LdtFile → Table
table_of_file f = all_round f.symmetry (measured_exactly f)
