use Rattle.direct_light.proofs.Shown.{lit_meets, lit_near, dark_meets, dark_near, dark_without_way, even_meets, even_near}
use Rattle.direct_light.proofs.light.even_light.Goals as goal

pub returns-in-None-clause-meets : goal.returns-in-None-clause-meets
returns-in-None-clause-meets c = λ n. dark_meets n _ c.whole.result c.args.lamp.now _ _ c.args.face c.args.clear c.in-None.ensures c.whole.ensures.low c.whole.ensures.high

pub returns-in-None-clause-near : goal.returns-in-None-clause-near
returns-in-None-clause-near c = λ n. dark_near n _ c.whole.result c.args.lamp.now _ _ c.args.face c.args.clear c.in-None.ensures c.whole.ensures.low c.whole.ensures.high

pub returns-in-None-clause-dark : goal.returns-in-None-clause-dark
returns-in-None-clause-dark c = λ dark. (c.whole.ensures.low, c.whole.ensures.high)

pub returns-in-Some-clause-meets : goal.returns-in-Some-clause-meets
returns-in-Some-clause-meets c = λ n. lit_meets n _ _ c.args.lamp.now _ _ c.args.face c.args.clear c.in-Some.way c.part_count.result c.in-Some.ensures c.part_count.ensures.count
    (c.share.ensures.meets n _ (even_meets c.args.candela c.whole-intensity.result c.whole-intensity.ensures.low c.whole-intensity.ensures.high))

pub returns-in-Some-clause-near : goal.returns-in-Some-clause-near
returns-in-Some-clause-near c = λ n. lit_near n _ _ c.args.lamp.now _ _ c.args.face c.args.clear c.in-Some.way c.part_count.result c.in-Some.ensures c.part_count.ensures.count
    (c.share.ensures.close n _ (even_near c.args.candela c.whole-intensity.result c.whole-intensity.ensures.low c.whole-intensity.ensures.high))

pub returns-in-Some-clause-dark : goal.returns-in-Some-clause-dark
returns-in-Some-clause-dark c = λ dark. absurd (dark_without_way _ _ c.args.face c.args.clear c.in-Some.way c.in-Some.ensures dark)
