use Rattle.sight_index.proofs.NearBoxes.{near_is}
use Rattle.sight_index.proofs.index.SightIndex.near.Goals as goal

pub returns : goal.returns
returns c = λ b.
    rw (c.near.ensures, c.near-2.ensures, c.near-3.ensures)
    (near_is c.args.self.now c.args.from.now c.args.to.now b c.requires.from c.requires.to)
