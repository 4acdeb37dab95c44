use Rattle.std.proofs.Common.{rules, ◌*◌, ◌<◌, ◌≤◌, arith}
use Rattle.sight_line.proofs.Ratios.{below_more, first_positive}
use Rattle.sight_line.proofs.clip.lesser.Goals as goal

pub returns-then-is_less : goal.returns-then-is_less
returns-then-is_less c = λ r s.
    let less : c.args.other.over * c.args.bound.under < c.args.bound.over * c.args.other.under = search rules in
    let over = first_positive _ _ _ less in
    (λ h. (below_more r s c.args.other.over c.args.other.under c.args.bound.over c.args.bound.under (omega arith) h over, h), λ h. h.1)

pub returns-else-is_less : goal.returns-else-is_less
returns-else-is_less c = λ r s.
    let more : c.args.bound.over * c.args.other.under ≤ c.args.other.over * c.args.bound.under = search rules in
    (λ h. (h, below_more r s c.args.bound.over c.args.bound.under c.args.other.over c.args.other.under more h c.requires), λ h. h.0)
