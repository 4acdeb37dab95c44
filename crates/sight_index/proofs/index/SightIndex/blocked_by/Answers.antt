use Rattle.sight_index.proofs.index.SightIndex.blocked_by.Goals as goal

pub returns-clause-answer : goal.returns-clause-answer
returns-clause-answer g c = rw (← c.vantage-from.ensures.at, ← c.vantage-to.ensures.at) c.blocked_between.ensures.answer

pub returns-clause-asked : goal.returns-clause-asked
returns-clause-asked g c = rw (← c.vantage-from.ensures.at, ← c.vantage-to.ensures.at) c.blocked_between.ensures.asked
