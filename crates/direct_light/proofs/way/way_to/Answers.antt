use Rattle.direct_light.proofs.Shown.{way_is}
use Rattle.direct_light.proofs.way.way_to.Goals as goal

pub returns : goal.returns
returns c = way_is _ _ _ _ _ _ _ _ c.position_of-there.ensures.place c.position_of-here.ensures.place c.if-not-clear.false c.in_front-ahead.ensures.front
    c.if-ahead-eq0.false c.in_front-ahead.ensures.most c.squared_distance-squared.ensures.square c.squared_distance-squared.ensures.most
