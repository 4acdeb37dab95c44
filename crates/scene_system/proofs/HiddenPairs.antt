-- Weights of patches that are seen, and of those that aren't.
use Rattle.std.proofs.Common.{◌≤◌, ◌≡◌, Bool, true, false, refl, arith}
use Rattle.fx_base.specs.declared.weight.Weight.{Weight}
use Rattle.room_layout.specs.Place.{Place}
use Rattle.room_layout.specs.declared.geometry.Face.{Face}
use Rattle.patch_mesh.specs.declared.patch.Patch.{Patch}
use Rattle.form_factor.specs.Weights.{IsCoefficient}
use Rattle.form_factor.proofs.Coefficients.{blocked_is}

pub seen_kept : (p : Place) (f : Face) (patch : Patch) (clear : Bool) (w : Weight) → IsCoefficient p f patch true w → clear ≡ true → IsCoefficient p f patch clear w
seen_kept p f patch clear w h e = rw e h

no_weight_is : (w : Weight) → w.hi ≡ 0 → w.lo ≤ w.hi → w ≡ record { lo = 0; hi = 0 }
no_weight_is w e h = let low : w.lo ≡ 0 = omega (arith, e, h) in rw (low, e) refl

-- a weight of 0 stays, whether the way is clear or not
pub none_kept : (p : Place) (f : Face) (patch : Patch) (clear : Bool) (w : Weight) → IsCoefficient p f patch true w → w.hi ≡ 0 → IsCoefficient p f patch clear w
none_kept p f patch true w h e = h
none_kept p f patch false w h e = rw (no_weight_is w e h.order) (blocked_is p f patch false refl)
