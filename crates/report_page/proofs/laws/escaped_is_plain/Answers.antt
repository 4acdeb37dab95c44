-- What of `escaped_is_plain` wants a proof by hand.
use Rattle.report_page.proofs.Escapes.{escaped_plain}
use Rattle.report_page.proofs.laws.escaped_is_plain.Goals as goal

pub returns : goal.returns
returns c = escaped_plain
