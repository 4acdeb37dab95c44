-- What of `put_points` wants a proof by hand.
use Rattle.std.proofs.Common.{arith}
use Rattle.report_form.specs.Writing.{text_of}
use Rattle.report_form.proofs.SoFar.{record_bytes, records_bytes, records_by_point, one_more, all_done}
use Rattle.report_form.proofs.grid.put_points.Goals as goal

pub loop-value-preserved : goal.loop-value-preserved
loop-value-preserved c = record {
  so_far = one_more (record_bytes c.args.columns) (records_bytes c.args.columns) c.args.points.now (text_of c.args.writer.now) c.loop-value.value-index c.loop-value.index
      (text_of c.loop-value.writer) (text_of c.put_point.new.writer) (records_by_point c.args.columns) c.loop-value-test.true c.in_ok-put_point.ensures.text c.loop-value.invariant.so_far;
  between = c.in_ok-put_point.ensures.between;
}

pub returns : goal.returns
returns c = record {
  text = all_done (record_bytes c.args.columns) (records_bytes c.args.columns) c.args.points.now (text_of c.args.writer.now) c.loop-value.value-index c.loop-value.index (text_of c.loop-value.writer)
      (records_by_point c.args.columns) (omega arith) c.loop-value.invariant.so_far;
}
