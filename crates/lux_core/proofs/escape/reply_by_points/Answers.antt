-- The lines of the light that was found are right by the exact tables.
use Rattle.std.proofs.Common.{◌∙◌}
use Rattle.lux_core.proofs.escape.reply_by_points.Goals as goal

pub returns : goal.returns
returns c = λ tables are.
    let right = c.route_text_is_right.ensures c.args.photos.now tables are c.args.room.now c.args.route.now c.args.marked.now c.args.points.now c.in_ok-found.found c.args.limits.now
    c.in_ok-report.report.verdict _ c.requires.points c.in_ok-found.ensures.extremes c.in_ok-report.ensures in
    record {
      served = c.requires.served;
      verdict = c.in_ok-report.report.verdict;
      right = rw c.new.ensures.text right;
      status_is = c.new.ensures.status ∙ c.status_of.ensures;
    }
