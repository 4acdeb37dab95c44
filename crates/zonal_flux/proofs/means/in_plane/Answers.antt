-- The hull over one direction is the intensity there.
use Rattle.std.proofs.Common.{ℕ, ◌%◌, ◌≡◌, ap, ◌∙◌, subst, sym}
use Rattle.fx_base.specs.Ends.{Ends}
use Rattle.fx_base.specs.Units.{natural, millionths}
use Rattle.fx_base.proofs.Order.{le_refl_f}
use Rattle.photo_table.specs.Table.{plane}
use Rattle.zonal_flux.specs.Steps.{IsInPlane}
use Rattle.zonal_flux.proofs.Planes.{in_plane_is}
use Rattle.zonal_flux.proofs.means.in_plane.Goals as goal

pub returns : goal.returns
returns c =
    let p = c.args.photo.now in
    let a = natural c.plane_angle-c.result.0 in
    let g = natural c.middle-gamma.result.0 in
    let h = c.hull-hull.ensures in
    let at : a ≡ plane p (c.args.i % _) = c.plane_angle-c.ensures.angle ∙ ap (λ (n : ℕ). plane p (c.args.i % n)) c.planes.ensures.planes in
    let P : Ends → Type 0 = λ s. IsInPlane p c.args.k c.args.i s in
    subst P (sym c.in_order.ensures.same)
    (in_plane_is p h.kept.is_table c.args.k c.args.i a g c.hull-hull.result c.in_order.ensures.order at (ap natural c.middle-gamma.ensures) h.close
    (h.contains (millionths a) (millionths g) (le_refl_f (millionths a), le_refl_f (millionths a)) (le_refl_f (millionths g), le_refl_f (millionths g)))
    h.not_negative h.bright h.below_the_greatest)
