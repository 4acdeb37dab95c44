-- The zone as it lies below the level plane, and the steps to its constant.
use Rattle.std.proofs.Common.{◌*◌, ◌≡◌, arith}
use Rattle.fx_base.specs.Units.{natural}
use Rattle.zonal_flux.specs.Zones.{below}
use Rattle.zonal_flux.proofs.SolidAngles.{below_is, above_is, constant_is, constant_fits}
use Rattle.zonal_flux.proofs.zones.zone_constant.Goals as goal
use Rattle.zonal_flux.proofs.zones.zone_constant.Goals.{then-k-lt-ZONES_BELOW, else-k-lt-ZONES_BELOW}

pub mul-requires-clause-high : goal.mul-requires-clause-high
mul-requires-clause-high c =
    constant_fits (5 * c.if-k-lt-ZONES_BELOW.below) c.two_pi.result c.cosine_at-inner.result c.difference.result (natural c.cosine_at-outer.result.lo)
    c.two_pi.ensures c.cosine_at-inner.ensures c.difference.ensures.high

pub returns : goal.returns
returns c =
    let same : c.if-k-lt-ZONES_BELOW.below ≡ below c.args.k = elim c.if-k-lt-ZONES_BELOW.branch [
      | then-k-lt-ZONES_BELOW w ↦ below_is c.args.k c.if-k-lt-ZONES_BELOW.below (omega arith) w.below-is
      | else-k-lt-ZONES_BELOW w ↦ above_is c.args.k c.if-k-lt-ZONES_BELOW.below (omega arith) w.below-is
    ] in
    record {
      constant = constant_is c.args.k c.if-k-lt-ZONES_BELOW.below c.two_pi.result c.cosine_at-inner.result c.cosine_at-outer.result c.difference.result c.mul.result
          same c.two_pi.ensures c.cosine_at-inner.ensures c.cosine_at-outer.ensures c.difference.ensures.low c.difference.ensures.high c.difference.ensures.in_order c.mul.ensures.low c.mul.ensures.high;
    }
