use Rattle.std.proofs.Common.{arith}
use Rattle.lux_core.proofs.Digits.{number_begins, one_digit_more, number_ends, most}
use Rattle.lux_core.proofs.words.number_of.Goals as goal

pub loop-byte-init : goal.loop-byte-init
loop-byte-init c = number_begins c.args.bytes.now

pub overflow_mul-number : goal.overflow_mul-number
overflow_mul-number c = let m = most c.args.bytes.now c.loop-byte.byte-index c.loop-byte.number c.loop-byte.invariant in omega arith

pub overflow_add-number : goal.overflow_add-number
overflow_add-number c =
    let m = most c.args.bytes.now c.loop-byte.byte-index c.loop-byte.number c.loop-byte.invariant in let d = c.type_inv.bytes c.loop-byte.byte-index in omega arith

pub loop-byte-preserved : goal.loop-byte-preserved
loop-byte-preserved c = rw c.min-number.ensures (one_digit_more c.args.bytes.now c.loop-byte.byte-index c.loop-byte.number c.loop-byte-test.true c.loop-byte.invariant)

pub returns : goal.returns
returns c = number_ends c.args.bytes.now c.loop-byte.byte-index c.loop-byte.number c.loop-byte-test.false c.loop-byte.invariant
