-- The measured angle that stands for C, and the intensity that a table of all planes has there.
use Rattle.std.specs.Prelude.{ℕ, ◌*◌, ◌<◌, ◌≡◌, ◌↔◌, [], ◌∷◌, Bool, ◌&&◌, ◌||◌, ◌⊎◌, if◌then◌else◌, List, length, slice_index_or}
use Rattle.fx_base.specs.Fraction.{Fraction, ◌<ᶠ◌, ◌≈ᶠ◌, ◌+ᶠ◌, ◌-ᶠ◌, at_most, whole}
use Rattle.fx_base.specs.Interval.{Interval}
use Rattle.fx_base.specs.Units.{millionths}
use Rattle.photo_table.specs.Table.{Table, IsTable, bilinear}
use Rattle.symmetry_expand.specs.AllRound.{all_round}
use Rattle.symmetry_expand.specs.Steps.{first_of, last_of}
use Rattle.symmetry_expand.specs.declared.symmetry.Symmetry.{Symmetry}
use Rattle.symmetry_expand.specs.declared.symmetry.Symmetry.TheVariants.{None, Axis, Plane0, Plane90, Both}

-- mirrored at the plane through 0 and 180 degrees, and at that through 90 and 270
unfoldable pub mirror_0 : Fraction → Fraction
mirror_0 c = if at_most c (whole 180) then c else whole 360 -ᶠ c

unfoldable pub mirror_90 : Fraction → Fraction
mirror_90 c = if at_most c (whole 90) then c else whole 180 -ᶠ c

-- it lies from the first measured plane to the last, or does so a turn later
unfoldable pub is_measured : List ℕ → Fraction → Bool
is_measured planes c =
    (at_most (millionths (first_of planes)) c && at_most c (millionths (last_of planes))) || at_most (c +ᶠ whole 360) (millionths (last_of planes))

-- for the mirror at 90 it is that of C and 180 - C, here a turn later, that was measured
unfoldable pub fold : Symmetry → List ℕ → Fraction → Fraction
fold None planes c = c
fold Axis planes c = millionths (first_of planes)
fold Plane0 planes c = mirror_0 c
fold Plane90 planes c = if is_measured planes c then c else whole 540 -ᶠ c
fold Both planes c = mirror_90 (mirror_0 c)

abbrev pub SameEnds : Interval → Interval → Type 0
SameEnds a b = (a.lo ≈ᶠ b.lo) × (a.hi ≈ᶠ b.hi)

-- t has in each direction what m has at the angle that stands for it
abbrev pub IsFoldedBy : Symmetry → Table → Table → Type 0
IsFoldedBy s m t = (c g : Fraction) → c <ᶠ whole 360 → SameEnds (bilinear t c g) (bilinear m (fold s m.planes c) g)

-- ---- the law

pub record AreEnds (planes : List ℕ) (first last : ℕ) : Type 0 where
  pub two : first < last
  pub begins : first_of planes ≡ first
  pub ends : last_of planes ≡ last

-- where the measured planes of a symmetry begin and end
abbrev pub RunAs : Symmetry → List ℕ → Type 0
RunAs None planes = (k : ℕ) → k < length planes → slice_index_or planes k 0 < 360000000
RunAs Axis planes = length planes ≡ 1
RunAs Plane0 planes = AreEnds planes 0 180000000
RunAs Plane90 planes = AreEnds planes 270000000 450000000 ⊎ AreEnds planes 90000000 270000000
RunAs Both planes = AreEnds planes 0 90000000

-- the intensity in each direction is the measured one at the angle that stands for it
abbrev pub AllRoundIsFolded : Type 0
AllRoundIsFolded = (s : Symmetry) (m : Table) → IsTable m → RunAs s m.planes → IsFoldedBy s m (all_round s m)

-- ---- which half-planes there are

-- c is one of these angles
pub record IsAmong (angles : List ℕ) (c : ℕ) : Type 0 where
  pub place : ℕ
  pub within : place < length angles
  pub is : slice_index_or angles place 0 ≡ c

-- it is, up to whole turns, a measured angle
pub record IsMeasuredAngle (angles : List ℕ) (x : Fraction) : Type 0 where
  pub place : ℕ
  pub within : place < length angles
  pub turns : ℕ
  pub turns_of_it : ℕ
  pub is : (x +ᶠ whole (360 * turns)) ≈ᶠ (millionths (slice_index_or angles place 0) +ᶠ whole (360 * turns_of_it))

-- of the angles below 360 degrees t has those that are folded onto measured ones
abbrev pub HasFolded : Symmetry → Table → Table → Type 0
HasFolded s m t = (c : ℕ) → c < 360000000 → IsAmong t.planes c ↔ IsMeasuredAngle m.planes (fold s m.planes (millionths c))

-- and with the same all round it has the angle 0 alone
abbrev pub HasPlanes : Symmetry → Table → Table → Type 0
HasPlanes None m t = HasFolded None m t
HasPlanes Axis m t = t.planes ≡ 0 ∷ []
HasPlanes Plane0 m t = HasFolded Plane0 m t
HasPlanes Plane90 m t = HasFolded Plane90 m t
HasPlanes Both m t = HasFolded Both m t

-- the half-planes of the table are those that stand for measured ones
abbrev pub PlanesAreFolded : Type 0
PlanesAreFolded = (s : Symmetry) (m : Table) → IsTable m → RunAs s m.planes → HasPlanes s m (all_round s m)
