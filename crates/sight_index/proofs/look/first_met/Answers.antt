use Rattle.std.proofs.Common.{◌<◌, ◌^◌, ◌∙◌, arith, rules}
use Rattle.sight_index.proofs.Lowest.{lowest, cleared_less, cleared_within, still_gone, asks_more}
use Rattle.sight_index.proofs.look.first_met.Goals as goal

pub meets-requires : goal.meets-requires
meets-requires g c =
    let low = lowest c.loop-left.left (omega arith) (search rules) in
    rw c.loop-left.invariant.same (c.requires _ (c.loop-left.invariant.within _ low.has))

pub returns-then-meets-clause-answer : goal.returns-then-meets-clause-answer
returns-then-meets-clause-answer g c =
    let low = lowest c.loop-left.left (omega arith) (search rules) in
    record {
      near = c.loop-left.invariant.within _ low.has;
      holds = rw (← c.loop-left.invariant.same, ← c.if-meets.true) c.meets.ensures.answer;
      first = λ a l h. c.loop-left.invariant.gone a h (low.none_below a l);
    }

pub returns-then-meets-clause-asked : goal.returns-then-meets-clause-asked
returns-then-meets-clause-asked g c =
    let low = lowest c.loop-left.left (omega arith) (search rules) in
    rw c.meets.ensures.asked (asks_more _ _ _ _ (c.loop-left.invariant.within _ low.has) c.loop-left.invariant.asked)

pub loop-left-smaller : goal.loop-left-smaller
loop-left-smaller g c =
    let low = lowest c.loop-left.left (omega arith) (search rules) in
    cleared_less _ _ low.small low.has

pub loop-left-preserved : goal.loop-left-preserved
loop-left-preserved g c =
    let fits : c.loop-left.left < 2 ^ 64 = search rules in
    let low = lowest c.loop-left.left (omega arith) fits in
    record {
      same = c.meets.ensures.same ∙ c.loop-left.invariant.same;
      within = λ b h. c.loop-left.invariant.within b (cleared_within _ _ b h);
      gone = still_gone _ _ _ _ fits low.small (rw (← c.loop-left.invariant.same, ← c.if-meets.false) c.meets.ensures.answer) c.loop-left.invariant.gone;
      asked = rw c.meets.ensures.asked (asks_more _ _ _ _ (c.loop-left.invariant.within _ low.has) c.loop-left.invariant.asked);
    }
