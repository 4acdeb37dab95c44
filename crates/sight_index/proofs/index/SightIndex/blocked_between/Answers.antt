use Rattle.std.proofs.Common.{arith}
use Rattle.sight_index.proofs.Lowest.{answer_same, asks_same}
use Rattle.sight_index.proofs.NearBoxes.{near_known}
use Rattle.sight_index.proofs.index.SightIndex.blocked_between.Goals as goal

pub first_met-requires : goal.first_met-requires
first_met-requires g c = λ b h.
    let known = near_known c.args.self.now c.args.from.now c.args.to.now b ((c.near.ensures b).0 h) in
    omega (arith, c.requires.probe)

pub returns-clause-answer : goal.returns-clause-answer
returns-clause-answer g c = answer_same _ _ _ _ c.near.ensures c.first_met.ensures.answer

pub returns-clause-asked : goal.returns-clause-asked
returns-clause-asked g c = asks_same _ _ _ _ c.near.ensures c.first_met.ensures.asked
