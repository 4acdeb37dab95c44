-- The lines are those of the ratio that was found.
use Rattle.escape_route.proofs.LineParts.{all_lines}
use Rattle.escape_route.proofs.lines.route_report.Goals as goal

pub returns : goal.returns
returns c = record {
  ratio = c.ratio-ratio.result;
  ratio_is = c.ratio-ratio.ensures.ends;
  ratio_holds = c.ratio-ratio.ensures.holds;
  verdict_is = simp (c.worse.ensures, c.judge-least_verdict.ensures.verdict, c.judge_ratio-ratio_verdict.ensures, c.outward-least.ensures.low, c.outward-least.ensures.high);
  text_is = all_lines c.args.points c.args.limits.now c.args.e.now c.ratio-ratio.result _ _ _ _ _ _ _ _ _ c.outward-least.ensures.low c.outward-least.ensures.high
      c.outward-greatest.ensures.low c.outward-greatest.ensures.high c.judge-least_verdict.ensures.verdict c.judge_ratio-ratio_verdict.ensures c.in_ok-text.ensures
      c.in_ok-text-2.ensures c.in_ok-text-3.ensures;
}
