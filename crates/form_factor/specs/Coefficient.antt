-- What share of a patch's illuminance reaches a place: the form factor between centres, times the patch's reflectance.
use Rattle.std.specs.Prelude.{ℕ, ◌*◌, Bool, ◌&&◌, nat_lt, if◌then◌else◌}
use Rattle.fx_base.specs.Fraction.{Fraction, ◌+ᶠ◌, ◌*ᶠ◌, ◌/ᶠ◌, ratio, whole}
use Rattle.fx_base.specs.Interval.{Interval, exact}
use Rattle.series_enclose.specs.Series.{pi}
use Rattle.room_layout.specs.Place.{Place, place_of, in_front, squared_distance}
use Rattle.room_layout.specs.declared.geometry.Face.{Face}
use Rattle.patch_mesh.specs.declared.patch.Patch.{Patch}

-- reflect / 1000 * (fronts / r) * area / (p r + area), with p for pi
unfoldable pub kernel : ℕ → ℕ → ℕ → ℕ → Fraction → Fraction
kernel reflect fronts r area p = (ratio reflect 1000 *ᶠ ratio fronts r) *ᶠ (whole area /ᶠ (p *ᶠ whole r +ᶠ whole area))

-- the distances of two centres in front of each other's planes, multiplied: 0 where one of them isn't in front
unfoldable pub fronts : Place → Face → Place → Face → ℕ
fronts p f q g = in_front f p q * in_front g q p

-- the coefficient of a patch at a place with this face, and 0 where the way between them isn't clear. Lengths are in half mm, so
-- that a square mm has an area of 4. It falls as pi rises: its lower end has pi's upper one.
unfoldable pub coefficient : ℕ → Place → Face → Patch → Bool → Interval
coefficient n p f patch clear =
    let q = place_of patch.centre in
    let k = kernel patch.reflect (fronts p f q patch.face) (squared_distance p q) (4 * patch.area) in
    if clear && nat_lt 0 (fronts p f q patch.face) then record { lo = k (pi n).hi; hi = k (pi n).lo } else exact (whole 0)

-- moved outward by 2^-32
abbrev pub loose_coefficient : ℕ → Place → Face → Patch → Bool → Interval
loose_coefficient n p f patch clear = Rattle.fx_base.specs.Interval.outward (Rattle.fx_base.specs.Fraction.half_power 32) (coefficient n p f patch clear)
