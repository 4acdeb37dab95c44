-- What of `uniformity_by` wants a proof by hand.
use Rattle.std.proofs.Common.{◌≡◌, ◌*◌, ◌/◌, ◌<◌, min, rules}
use Rattle.std.specs.Int.{div_ceil}
use Rattle.scene_system.specs.Sums.{average_high, average_low}
use Rattle.grid_report.proofs.Reported.{shares_order}
use Rattle.grid_report.proofs.evenness.uniformity_by.Goals as goal

pub returns-clause-order : goal.returns-clause-order
returns-clause-order c =
    let least = c.least_ends-least.result in
    let low = average_low c.args.values.now in
    let high = average_high c.args.values.now in
    let lo : c.min-lo.result ≡ min (least.low * 1000000 / high) 1000000 = search rules in
    let hi : c.min-hi.result ≡ min (div_ceil (least.high * 1000000) low) 1000000 = search rules in
    let positive : 0 < low = search rules in
    rw (lo, hi) (shares_order least.low least.high low high c.least_ends-least.ensures.order c.requires.order positive)
