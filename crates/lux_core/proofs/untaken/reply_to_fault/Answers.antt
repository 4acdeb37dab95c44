-- What of `reply_to_fault` wants a proof by hand.
use Rattle.std.proofs.Common.{◌++◌, ◌∙◌, sym, append_assoc}
use Rattle.std.specs.Prelude.{codes}
use Rattle.lux_core.proofs.untaken.reply_to_fault.Goals as goal

pub returns-in_ok-text-in-Absent : goal.returns-in_ok-text-in-Absent
returns-in_ok-text-in-Absent c =
    rw c.in-Absent.is
    (c.refused.ensures.status, c.refused.ensures.text ∙ (c.in_ok-text-in-Absent.ensures.ok ∙ sym (append_assoc (codes "refused " ++ c.args.name.now) (codes " Absent") (codes "\n"))))

pub returns-in_ok-text-in-TooLong : goal.returns-in_ok-text-in-TooLong
returns-in_ok-text-in-TooLong c =
    rw c.in-TooLong.is
    (c.refused-in-TooLong.ensures.status, c.refused-in-TooLong.ensures.text ∙ (c.in_ok-text-in-TooLong.ensures.ok ∙ sym (append_assoc (codes "refused " ++ c.args.name.now) (codes " TooLong") (codes "\n"))))
