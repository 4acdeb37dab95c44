-- What of `sums_of_multiples` wants a proof by hand.
use Rattle.dimming_plan.proofs.Multiples.{sums_of_multiples}
use Rattle.dimming_plan.proofs.laws.sums_of_multiples.Goals as goal

pub returns : goal.returns
returns c = sums_of_multiples
