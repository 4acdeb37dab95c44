use Rattle.std.proofs.Common.{◌<◌, arith}
use Rattle.std.proofs.lemmas.List.{take_all}
use Rattle.std.proofs.lemmas.List.Elements.{All-more}
use Rattle.escape_route.proofs.points.first_missing.Goals as goal

pub loop-k-preserved : goal.loop-k-preserved
loop-k-preserved c =
    let below = c.if-k-count.false in
    All-more (λ i. i < c.args.count) c.args.lamps.now c.loop-k.k-index 0 c.loop-k-test.true c.loop-k.invariant (omega (arith, below))

pub returns : goal.returns
returns c = let whole = take_all _ _ c.loop-k-test.false in rw whole at c.loop-k.invariant
