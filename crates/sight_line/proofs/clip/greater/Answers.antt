use Rattle.std.proofs.Common.{rules, ◌*◌, ◌<◌, ◌≤◌, arith}
use Rattle.sight_line.proofs.Ratios.{above_less, second_positive}
use Rattle.sight_line.proofs.clip.greater.Goals as goal

pub returns-then-is_less : goal.returns-then-is_less
returns-then-is_less c = λ r s.
    let less : c.args.bound.over * c.args.other.under < c.args.other.over * c.args.bound.under = search rules in
    let under = second_positive _ _ _ less in
    (λ h. (above_less r s c.args.bound.over c.args.bound.under c.args.other.over c.args.other.under (omega arith) h under, h), λ h. h.1)

pub returns-else-is_less : goal.returns-else-is_less
returns-else-is_less c = λ r s.
    let more : c.args.other.over * c.args.bound.under ≤ c.args.bound.over * c.args.other.under = search rules in
    (λ h. (h, above_less r s c.args.other.over c.args.other.under c.args.bound.over c.args.bound.under more h c.requires), λ h. h.0)
