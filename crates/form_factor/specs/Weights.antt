-- What a weight in ticks says of a coefficient.
use Rattle.std.specs.Prelude.{ℕ, ◌+◌, ◌≤◌, ◌≡◌, ◌^◌, Bool, false}
use Rattle.fx_base.specs.Fraction.{◌≤ᶠ◌}
use Rattle.fx_base.specs.Units.{no_weight, ticks}
use Rattle.fx_base.specs.declared.weight.Weight.{Weight}
use Rattle.room_layout.specs.Place.{Place, place_of}
use Rattle.room_layout.specs.declared.geometry.Face.{Face}
use Rattle.patch_mesh.specs.declared.patch.Patch.{Patch}
use Rattle.form_factor.specs.Coefficient.{coefficient, fronts}

-- the weight meets the coefficient at every depth, is at most 5 ticks wide, and is at most 1. It is 0 at both ends where the way
-- isn't clear, and where one of the two isn't in front of the other.
pub record IsCoefficient (p : Place) (f : Face) (patch : Patch) (clear : Bool) (w : Weight) : Type 0 where
  pub low : (n : ℕ) → ticks w.lo ≤ᶠ (coefficient n p f patch clear).hi
  pub high : (n : ℕ) → (coefficient n p f patch clear).lo ≤ᶠ ticks w.hi
  pub narrow : w.hi ≤ w.lo + 5
  pub order : w.lo ≤ w.hi
  pub most : w.hi ≤ 2 ^ 36
  pub blocked : clear ≡ false → w ≡ no_weight
  pub behind : fronts p f (place_of patch.centre) patch.face ≡ 0 → w ≡ no_weight
