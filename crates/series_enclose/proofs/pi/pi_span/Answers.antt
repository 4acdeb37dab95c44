use Rattle.series_enclose.proofs.PiLaws.{pi_meets}
use Rattle.series_enclose.proofs.pi.pi_span.Goals as goal

pub returns-clause-meets : goal.returns-clause-meets
returns-clause-meets c = λ n. rw (c.new.ensures.low, c.new.ensures.high, c.tick_of.ensures, c.tick_of-2.ensures) (pi_meets n)
