use Rattle.form_factor.proofs.Pi.{three_at, four_at}
use Rattle.form_factor.proofs.pi_ends.pi_ends.Goals as goal

pub returns-clause-three : goal.returns-clause-three
returns-clause-three c = three_at _ _ _ c.magnitude-hi.ensures c.hi.ensures.end (c.pi_span-pi.ensures.meets 0).below

pub returns-clause-four : goal.returns-clause-four
returns-clause-four c = four_at _ _ _ c.magnitude-lo.ensures c.lo.ensures.end (c.pi_span-pi.ensures.meets 0).above
