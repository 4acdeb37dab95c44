use Rattle.std.proofs.Common.{sym, ◌∙◌}
use Rattle.form_factor.proofs.Apart.{near_at, far_at, fronts_at, distance_at, some_at}
use Rattle.form_factor.proofs.Coefficients.{blocked_is, behind_is, seen_is}
use Rattle.form_factor.proofs.reach.factor_at.Goals as goal

pub returns-then-front-eq0 : goal.returns-then-front-eq0
returns-then-front-eq0 c =
    behind_is _ _ _ _ (sym (fronts_at _ _ _ _ _ _ _ c.position_of-here.ensures.place c.position_of-there.ensures.place c.fronts-front.ensures) ∙ c.if-front-eq0.true)

pub returns-then-not-clear : goal.returns-then-not-clear
returns-then-not-clear c = blocked_is _ _ _ _ c.if-not-clear.true

pub weigh-requires-clause-near : goal.weigh-requires-clause-near
weigh-requires-clause-near c = near_at _ _ _ _ _ _ c.fronts-front.ensures c.squared_distance-squared.ensures.square

pub weigh-requires-clause-apart : goal.weigh-requires-clause-apart
weigh-requires-clause-apart c = far_at _ _ _ _ _ _ c.fronts-front.ensures c.squared_distance-squared.ensures.square c.if-front-eq0.false

pub returns : goal.returns
returns c =
    seen_is _ _ _ _ _ _ _ c.if-not-clear.false (some_at _ c.if-front-eq0.false)
    (fronts_at _ _ _ _ _ _ _ c.position_of-here.ensures.place c.position_of-there.ensures.place c.fronts-front.ensures)
    (distance_at _ _ _ _ _ c.position_of-here.ensures.place c.position_of-there.ensures.place c.squared_distance-squared.ensures.square)
    c.weigh.ensures.low c.weigh.ensures.high c.weigh.ensures.narrow c.weigh.ensures.order c.weigh.ensures.most
