use Rattle.form_factor.proofs.Divided.{divisor_above, divisor_near}
use Rattle.form_factor.proofs.weigh.divisor.Goals as goal

pub returns-clause-above : goal.returns-clause-above
returns-clause-above c = divisor_above c.args.thousand_r c.args.pi c.args.s c.args.area

pub returns-clause-near : goal.returns-clause-near
returns-clause-near c = divisor_near c.args.thousand_r c.args.pi c.args.s c.args.area
