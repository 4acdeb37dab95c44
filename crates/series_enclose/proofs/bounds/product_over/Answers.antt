use Rattle.std.proofs.Common.{◌*◌, ◌/◌, arith}
use Rattle.std.proofs.Math.Nat.{mul-le-mul}
use Rattle.fx_base.proofs.Rounding.{quotients-in_order}
use Rattle.series_enclose.proofs.bounds.product_over.Goals as goal

pub returns-clause-order : goal.returns-clause-order
returns-clause-order c =
    let low = c.args.one.lo * c.args.other.lo in
    let high = c.args.one.hi * c.args.other.hi in
    rw c.div_ceil.ensures
    (quotients-in_order (low / 68719476736) c.args.divisor c.div_ceil-high.result c.args.divisor
    (rw c.div_ceil-high.ensures (quotients-in_order low 68719476736 high 68719476736 (mul-le-mul c.requires.order c.requires.other_order) (omega arith) (omega arith)))
    c.requires.some (omega arith))
