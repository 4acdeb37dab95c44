-- One more digit.
use Rattle.std.proofs.Common.{arith}
use Rattle.decimal_text.proofs.Digits.{worth_more, digit_at, one_more}
use Rattle.decimal_text.proofs.number.worth_of.Goals as goal

pub loop-d-preserved : goal.loop-d-preserved
loop-d-preserved c =
    let xs = c.args.digits.now in
    let i = c.loop-d.d-index in
    let d = digit_at xs i c.requires.digits c.loop-d-test.true in
    record {
      so_far = omega (arith, worth_more xs i c.loop-d-test.true, c.from.ensures, c.loop-d.invariant.so_far);
      small = one_more c.loop-d.value c.from.result i c.loop-d.invariant.small (omega (arith, d, c.from.ensures));
    }
