use Rattle.std.proofs.Common.{◌+◌, ◌*◌, ◌<◌, arith}
use Rattle.sight_line.proofs.Ratios.{between}
use Rattle.sight_line.proofs.clip.is_open.Goals as goal

-- the point between two ratios: the sum of the upper numbers to the sum of the lower ones
pub returns : goal.returns
returns c = (
  λ t. let less : c.args.window.above.over * c.args.window.below.under < c.args.window.below.over * c.args.window.above.under = c.is_less.ensures.0 t in
      record {
        r = c.args.window.above.under + c.args.window.below.under;
        s = c.args.window.above.over + c.args.window.below.over;
        allowed = (omega arith, omega arith);
      },
  λ o. c.is_less.ensures.1 (between o.r o.s c.args.window.above.over c.args.window.above.under c.args.window.below.over c.args.window.below.under o.allowed.0 o.allowed.1),
)
