-- What of `least_power` wants a proof by hand.
use Rattle.std.proofs.Common.{ℕ, ◌^◌, ◌≤◌}
use Rattle.fx_base.specs.Units.{natural}
use Rattle.dimming_plan.specs.Steps.{IsGroup}
use Rattle.dimming_plan.specs.declared.power.Group.{Group}
use Rattle.dimming_plan.proofs.Six.{all_made, low_within}
use Rattle.dimming_plan.proofs.power.least_power.Goals as goal

pub least_plan-requires-clause-light : goal.least_plan-requires-clause-light
least_plan-requires-clause-light c =
    all_made IsGroup (λ n. n ≤ 2 ^ 105) (λ (g : Group). natural g.average.lo) c.args.groups.now c.low_light-low.result c.low_light-low.ensures low_within c.requires.groups

pub least_plan-requires-clause-watts : goal.least_plan-requires-clause-watts
least_plan-requires-clause-watts c =
    all_made IsGroup (λ w. w ≤ 2560000) (λ (g : Group). g.watts) c.args.groups.now c.watts_of-watts.result c.watts_of-watts.ensures (λ g h. h.watts) c.requires.groups

pub least_plan-requires-2-clause-light : goal.least_plan-requires-2-clause-light
least_plan-requires-2-clause-light c =
    all_made IsGroup (λ n. n ≤ 2 ^ 105) (λ (g : Group). natural g.average.hi) c.args.groups.now c.high_light-high.result c.high_light-high.ensures (λ g h. h.high) c.requires.groups

pub least_plan-requires-2-clause-watts : goal.least_plan-requires-2-clause-watts
least_plan-requires-2-clause-watts c =
    all_made IsGroup (λ w. w ≤ 2560000) (λ (g : Group). g.watts) c.args.groups.now c.watts_of-watts.result c.watts_of-watts.ensures (λ g h. h.watts) c.requires.groups
