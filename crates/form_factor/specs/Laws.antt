-- What holds of coefficients at every depth.
use Rattle.std.specs.Prelude.{ℕ, ◌<◌, ◌≤◌, Bool}
use Rattle.fx_base.specs.Fraction.{Fraction, ◌≤ᶠ◌, ◌+ᶠ◌, whole, ratio}
use Rattle.fx_base.specs.Nesting.{IsNested}
use Rattle.room_layout.specs.Place.{Place, squared_distance}
use Rattle.room_layout.specs.declared.geometry.Face.{Face}
use Rattle.patch_mesh.specs.declared.patch.Patch.{Patch}
use Rattle.form_factor.specs.Coefficient.{kernel, fronts, coefficient}

-- the product of the two distances is at most the square of the distance between the centres
abbrev pub FrontsAreNear : Type 0
FrontsAreNear = (p q : Place) (f g : Face) → fronts p f q g ≤ squared_distance p q

-- where pi rises by at most w, the coefficient falls by at most w
abbrev pub KernelSpreads : Type 0
KernelSpreads = (reflect fronts r area : ℕ) (p q w : Fraction) → reflect ≤ 1000 → fronts ≤ r → 0 < r → 0 < area → whole 1 ≤ᶠ q → q ≤ᶠ (p +ᶠ w)
    → kernel reflect fronts r area p ≤ᶠ (kernel reflect fronts r area q +ᶠ w)

-- the enclosures of a coefficient nest, and their ends are in order
abbrev pub CoefficientNests : Type 0
CoefficientNests = (p : Place) (f : Face) (patch : Patch) (clear : Bool) → 1 ≤ patch.area → IsNested (λ n. coefficient n p f patch clear)

-- from depth 2 on they are at most 1 / 2,400,000 wide
abbrev pub CoefficientNarrows : Type 0
CoefficientNarrows = (n : ℕ) (p : Place) (f : Face) (patch : Patch) (clear : Bool) → 2 ≤ n → 1 ≤ patch.area → patch.reflect ≤ 1000
    → (coefficient n p f patch clear).hi ≤ᶠ ((coefficient n p f patch clear).lo +ᶠ ratio 1 2400000)
