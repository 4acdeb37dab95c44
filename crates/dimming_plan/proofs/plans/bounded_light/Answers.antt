-- What of `bounded_light` wants a proof by hand.
use Rattle.std.proofs.Common.{◌≤◌, ◌^◌, ◌*◌, ℕ, subst, sym}
use Rattle.dimming_plan.proofs.Six.{weighed_most}
use Rattle.dimming_plan.proofs.plans.bounded_light.Goals as goal

pub returns-clause-most : goal.returns-clause-most
returns-clause-most c = subst (λ (n : ℕ). n ≤ 60 * 2 ^ 105) (sym c.light_of.ensures) (weighed_most c.args.steps.now c.args.light.now c.requires.steps c.requires.light)
