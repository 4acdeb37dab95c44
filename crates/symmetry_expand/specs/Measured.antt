-- What was measured, as a table. Measured planes may begin below 0; the table has them brought by whole turns to where the first
-- one lies from 0 to below 360 degrees.
use Rattle.std.specs.Prelude.{ℕ, ◌+◌, ◌-◌, ◌<◌, ◌≡◌, ◌&&◌, ◌||◌, Bool, true, false, ℤ, pos, negsuc, ◌+ℤ◌, ◌-ℤ◌, ◌≤ℤ◌, ◌<ℤ◌, List, length, map, slice_index_or}
use Rattle.std.specs.Int.{int_rem_euclid}
use Rattle.std.specs.Ordering.{int_eq}
use Rattle.fx_base.specs.Ends.{Ends}
use Rattle.fx_base.specs.Units.{natural, of_span}
use Rattle.fx_base.specs.declared.Micro.{Micro}
use Rattle.photo_table.specs.Kept.{angle_of}
use Rattle.photo_table.specs.Table.{Table}
use Rattle.symmetry_expand.specs.declared.symmetry.ExpandFault.{ExpandFault}
use Rattle.symmetry_expand.specs.declared.symmetry.ExpandFault.TheVariants.{PlaneCount, PlaneAngle, Memory}
use Rattle.symmetry_expand.specs.declared.symmetry.Symmetry.{Symmetry}
use Rattle.symmetry_expand.specs.declared.symmetry.Symmetry.TheVariants.{None, Axis, Plane0, Plane90, Both}

-- so many millionths of a degree
abbrev pub micro : ℕ → Micro
micro n = record { 0 = pos n }

abbrev pub no_angle : Micro
no_angle = micro 0

-- the first plane and the last
abbrev pub first_angle : List Micro → ℤ
first_angle planes = (slice_index_or planes 0 no_angle).0

abbrev pub last_angle : List Micro → ℤ
last_angle planes = (slice_index_or planes (length planes - 1) no_angle).0

-- the planes rise by less than a turn in all
pub record RiseWithinTurn (planes : List Micro) : Type 0 where
  pub some : 0 < length planes
  pub rise : (i j : ℕ) (d : Micro) → i < j → j < length planes → (slice_index_or planes i d).0 <ℤ (slice_index_or planes j d).0
  pub one_turn : (i : ℕ) (d : Micro) → i < length planes → (slice_index_or planes i d).0 <ℤ (first_angle planes +ℤ pos 360000000)

-- what else a symmetry asks of them
abbrev pub AreSuited : Symmetry → List Micro → Type 0
AreSuited None planes = (pos 0 ≤ℤ first_angle planes) × (last_angle planes <ℤ pos 360000000)
AreSuited Axis planes = length planes ≡ 1
AreSuited Plane0 planes = Unit {0}
AreSuited Plane90 planes = Unit {0}
AreSuited Both planes = Unit {0}

-- whether the planes run from where a symmetry has them begin to where it has them end
abbrev pub runs_as_needed : Symmetry → ℤ → ℤ → Bool
runs_as_needed None first last = true
runs_as_needed Axis first last = true
runs_as_needed Plane0 first last = int_eq first (pos 0) && int_eq last (pos 180000000)
runs_as_needed Plane90 first last =
    (int_eq first (negsuc 89999999) && int_eq last (pos 90000000)) || (int_eq first (pos 90000000) && int_eq last (pos 270000000))
runs_as_needed Both first last = int_eq first (pos 0) && int_eq last (pos 90000000)

-- ---- the table

-- an angle brought into one turn by whole turns
abbrev pub in_turn : ℤ → ℕ
in_turn angle = natural (int_rem_euclid angle (pos 360000000))

-- the first plane in its turn, and the others as far after it as they were measured
abbrev pub lifted : List Micro → List ℕ
lifted planes = map (λ (p : Micro). in_turn (first_angle planes) + natural (p.0 -ℤ first_angle planes)) planes

abbrev pub measured_table : List Micro → List Micro → List Ends → Table
measured_table planes gammas values = record { planes = lifted planes; gammas = map angle_of gammas; values = map of_span values }

-- the angles are refused exactly where they don't run as needed; that the number of planes fits is seen before
abbrev pub IsRefusal : ExpandFault → Bool → Type 0
IsRefusal PlaneCount runs = ⊥
IsRefusal PlaneAngle runs = runs ≡ false
IsRefusal Memory runs = runs ≡ true
