use Rattle.std.proofs.Common.{rules}
use Rattle.fx_base.proofs.Rounding.{scaled_down, scaled_up}
use Rattle.fx_base.proofs.span.Span.of_fraction.Goals as goal

pub returns-clause-low : goal.returns-clause-low
returns-clause-low c = rw (scaled_down c.args.num c.args.den 68719476736 c.requires.some) (search rules)

pub returns-clause-high : goal.returns-clause-high
returns-clause-high c = rw (scaled_up c.args.num c.args.den 68719476736 c.requires.some) (search rules)
