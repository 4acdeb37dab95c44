-- What of `six` wants a proof by hand.
use Rattle.dimming_plan.specs.Steps.{IsGroup}
use Rattle.dimming_plan.proofs.Six.{all_six}
use Rattle.dimming_plan.proofs.tests.six.Goals as goal

pub returns : goal.returns
returns c =
    all_six IsGroup c.args.a c.args.b c.args.c c.args.d c.args.e c.args.f c.requires.first c.requires.second c.requires.third c.requires.fourth c.requires.fifth c.requires.sixth
