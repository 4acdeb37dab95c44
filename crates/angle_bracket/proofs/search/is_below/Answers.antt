use Rattle.angle_bracket.proofs.RowTest.{test_below, test_above}
use Rattle.angle_bracket.proofs.search.is_below.Goals as goal

pub returns-clause-below : goal.returns-clause-below
returns-clause-below c =
    let s = c.sides_of-sides in test_below c.args.x c.args.y s.result.sine s.result.cosine c.args.sine c.args.cosine c.requires.some s.ensures.sine s.ensures.cosine

pub returns-clause-above : goal.returns-clause-above
returns-clause-above c =
    let s = c.sides_of-sides in test_above c.args.x c.args.y s.result.sine s.result.cosine c.args.sine c.args.cosine s.ensures.sine s.ensures.cosine
