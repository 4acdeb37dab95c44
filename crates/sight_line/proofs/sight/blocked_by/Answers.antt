use Rattle.std.proofs.Common.{refl, sym}
use Rattle.std.proofs.lemmas.List.{take_all}
use Rattle.sight_line.proofs.First.{none_yet, none_more, first_met, one_met, none_met}
use Rattle.sight_line.proofs.sight.blocked_by.Goals as goal

pub loop-k-init : goal.loop-k-init
loop-k-init c = none_yet _ _

pub loop-k-preserved : goal.loop-k-preserved
loop-k-preserved c = none_more _ _ _ _ _ c.loop-k-test.true c.loop-k.invariant (sym c.if-is_met.ensures.test)

pub returns-then-is_met-clause-first : goal.returns-then-is_met-clause-first
returns-then-is_met-clause-first c =
    rw (← c.position_of-from.ensures.place, ← c.position_of-to.ensures.place)
    (first_met _ _ _ _ _ c.loop-k-test.true c.loop-k.invariant (c.if-is_met.ensures.met.0 refl))

pub returns-then-is_met-clause-test : goal.returns-then-is_met-clause-test
returns-then-is_met-clause-test c =
    rw (← c.position_of-from.ensures.place, ← c.position_of-to.ensures.place)
    (sym (one_met _ _ _ _ _ c.loop-k-test.true (sym c.if-is_met.ensures.test)))

pub returns-clause-first : goal.returns-clause-first
returns-clause-first c =
    let whole = take_all _ _ c.loop-k-test.false in
    rw (← c.position_of-from.ensures.place, ← c.position_of-to.ensures.place) (none_met _ _ _ (rw whole at c.loop-k.invariant))
