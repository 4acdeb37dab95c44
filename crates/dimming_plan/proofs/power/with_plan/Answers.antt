-- What of `with_plan` wants a proof by hand.
use Rattle.std.proofs.Common.{◌≡◌, ◌∙◌, sym, ap, subst, List, ℕ, ◌<◌, true, false}
use Rattle.std.specs.Prelude.{IfSome}
use Rattle.dimming_plan.specs.Search.{plan_at}
use Rattle.dimming_plan.specs.Steps.{Reaches, weighed}
use Rattle.dimming_plan.proofs.Searched.{better, not_less, not_reached}
use Rattle.dimming_plan.proofs.power.with_plan.Goals as goal

pub returns-then-not-is_less : goal.returns-then-not-is_less
returns-then-not-is_less c =
    let power = c.power_of-tenths.ensures ∙ ap (λ (t : List ℕ). weighed t c.args.watts.now) c.plan_at-steps.ensures.plan in
    not_less c.args.light.now c.args.watts.now c.args.least c.args.number c.power_of-tenths.result c.args.best c.requires.before power
    (λ less. cc (sym (c.is_less.ensures.no less) ∙ c.if-not-is_less.true))

pub returns-then-not-reaches : goal.returns-then-not-reaches
returns-then-not-reaches c =
    not_reached c.args.light.now c.args.watts.now c.args.least c.args.number c.args.best c.requires.before
    (λ reached. cc (sym (c.reaches.ensures.no (subst (λ (t : List ℕ). Reaches c.args.light.now c.args.least t) (sym c.plan_at-steps.ensures.plan) reached)) ∙ c.if-not-reaches.true))

pub returns : goal.returns
returns c =
    let power = c.power_of-tenths.ensures ∙ ap (λ (t : List ℕ). weighed t c.args.watts.now) c.plan_at-steps.ensures.plan in
    let reached = subst (λ (t : List ℕ). Reaches c.args.light.now c.args.least t) c.plan_at-steps.ensures.plan (c.reaches.ensures.yes c.if-not-reaches.false) in
    better c.args.light.now c.args.watts.now c.args.least c.args.number c.args.best _ c.requires.before (c.is_less.ensures.yes c.if-not-is_less.false)
    c.plan_at-steps.ensures.plan reached power
