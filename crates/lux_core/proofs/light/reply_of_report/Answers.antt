-- What of `reply_of_report` wants a proof by hand.
use Rattle.std.proofs.Common.{◌<◌}
use Rattle.scene_system.specs.Sums.{open_total}
use Rattle.scene_system.specs.Assembled.{numbers}
use Rattle.lux_core.proofs.light.reply_of_report.Goals as goal

pub returns : goal.returns
returns c = λ tables rounded exact scene.
    let r = c.requires in
    let room = c.args.room.now in
    let values = c.in_ok-values.values.items in
    let report = c.in_ok-report.report in
    let is = rw c.as_slice.ensures.value at c.in_ok-report.ensures.report in
    let are = c.values_are_points.ensures tables room (numbers c.args.scene.now) c.args.bounds.now.lower.items c.args.bounds.now.upper.items values
    r.accepted exact r.formed scene r.none_heavy r.lower r.upper r.in_order c.in_ok-values.ensures.values in
    let some : 0 < open_total values = rw c.in_ok-values.ensures.open r.formed.some_open in
    record {
      report = report;
      right = c.report_is_right.ensures tables room values report are some is;
      said = c.in_ok-reply.ensures.said tables rounded;
      status_is = c.in_ok-reply.ensures.status;
    }
