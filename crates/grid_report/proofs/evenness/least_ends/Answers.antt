-- What of `least_ends` wants a proof by hand.
use Rattle.std.proofs.Common.{arith}
use Rattle.scene_system.specs.Sums.{lower_end, upper_end}
use Rattle.grid_report.proofs.Leasts.{least_step, all_least, least_within, leasts_order, lower_within, upper_within}
use Rattle.grid_report.proofs.evenness.least_ends.Goals as goal

pub loop-point-preserved : goal.loop-point-preserved
loop-point-preserved c = record {
  lower = least_step lower_end c.args.values.now c.loop-point.point-index c.point-item.result c.loop-point.least.low c.with_point-least.result.low 5070602400912917605986812821504
      c.loop-point-test.true c.point-item.is c.with_point-least.ensures.low c.loop-point.invariant.lower;
  upper = least_step upper_end c.args.values.now c.loop-point.point-index c.point-item.result c.loop-point.least.high c.with_point-least.result.high 5070602400912917605986812821504
      c.loop-point-test.true c.point-item.is c.with_point-least.ensures.high c.loop-point.invariant.upper;
}

pub returns-clause-low : goal.returns-clause-low
returns-clause-low c = all_least lower_end c.args.values.now c.loop-point.point-index c.loop-point.least.low 5070602400912917605986812821504
    (omega arith) c.loop-point.invariant.lower c.requires.some (lower_within c.args.values.now c.requires.values)

pub returns-clause-high : goal.returns-clause-high
returns-clause-high c = all_least upper_end c.args.values.now c.loop-point.point-index c.loop-point.least.high 5070602400912917605986812821504
    (omega arith) c.loop-point.invariant.upper c.requires.some (upper_within c.args.values.now c.requires.values)

pub returns-clause-low_most : goal.returns-clause-low_most
returns-clause-low_most c = least_within lower_end c.args.values.now c.loop-point.point-index c.loop-point.least.low 5070602400912917605986812821504 (omega arith) c.loop-point.invariant.lower

pub returns-clause-high_most : goal.returns-clause-high_most
returns-clause-high_most c = least_within upper_end c.args.values.now c.loop-point.point-index c.loop-point.least.high 5070602400912917605986812821504 (omega arith) c.loop-point.invariant.upper

pub returns-clause-order : goal.returns-clause-order
returns-clause-order c = leasts_order c.args.values.now c.loop-point.least.low c.loop-point.least.high c.requires.values (returns-clause-low c) (returns-clause-high c)
