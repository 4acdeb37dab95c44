-- What of `push_points` wants a proof by hand.
use Rattle.std.proofs.Common.{string_bytes, arith}
use Rattle.report_form.specs.Spelled.{point_line, point_lines}
use Rattle.report_form.proofs.SoFar.{lines_by_point, one_more, all_done}
use Rattle.report_form.proofs.lines.push_points.Goals as goal

pub loop-value-preserved : goal.loop-value-preserved
loop-value-preserved c = one_more (point_line c.args.columns) (point_lines c.args.columns) c.args.points.now (string_bytes c.args.text.now) c.loop-value.value-index c.loop-value.index
    (string_bytes c.loop-value.text) (string_bytes c.push_point.new.text) (lines_by_point c.args.columns) c.loop-value-test.true c.in_ok-push_point.ensures c.loop-value.invariant

pub returns : goal.returns
returns c = all_done (point_line c.args.columns) (point_lines c.args.columns) c.args.points.now (string_bytes c.args.text.now) c.loop-value.value-index c.loop-value.index (string_bytes c.loop-value.text)
    (lines_by_point c.args.columns) (omega arith) c.loop-value.invariant
