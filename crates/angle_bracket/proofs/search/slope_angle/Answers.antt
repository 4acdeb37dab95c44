use Rattle.angle_bracket.proofs.Found.{found_end}
use Rattle.angle_bracket.proofs.search.slope_angle.Goals as goal

pub returns-clause-meets : goal.returns-clause-meets
returns-clause-meets c = λ n. record {
  above = c.last_step_below-step.ensures.below.below n;
  below = rw c.min-next.ensures (found_end c.args.x c.args.y c.last_step_below-step.result n c.last_step_below-step.ensures);
}
