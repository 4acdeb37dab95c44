use Rattle.std.proofs.Common.{◌≡◌, arith, subst, refl, ℕ, ◌+◌}
use Rattle.series_enclose.proofs.TermSums.{IsSumSoFar, sum_start, sum_turn, three_turns, three_turns_narrow}
use Rattle.series_enclose.proofs.turns.series_bounds.Goals as goal

pub loop-n-init : goal.loop-n-init
loop-n-init c =
    sum_start c.args.offset c.args.first.lo c.args.first.hi c.args.second.lo c.args.second.hi c.args.square.lo c.args.square.hi
    c.requires.first_order c.requires.second_order c.requires.first_below c.requires.second_below c.requires.narrow

pub loop-n-preserved : goal.loop-n-preserved
loop-n-preserved c =
    rw (c.saturating_sub.ensures, c.saturating_sub-in-loop-n.ensures)
    (sum_turn c.args.offset c.loop-n.n (c.loop-n.n + 1) c.divisor.result c.divisor-in-loop-n.result
    c.args.first.lo c.args.first.hi c.args.second.lo c.args.second.hi c.args.square.lo c.args.square.hi
    c.loop-n.term.lo c.loop-n.term.hi c.loop-n.sum.lo c.loop-n.sum.hi
    c.product_over-next.result.lo c.product_over-next.result.hi c.product_over-term.result.lo c.product_over-term.result.hi
    refl c.divisor.ensures c.divisor-in-loop-n.ensures c.requires.square_order c.requires.square_below c.requires.square_narrow
    c.loop-n.invariant c.product_over-next.ensures.product c.product_over-term.ensures.product)

pub returns-clause-encloses : goal.returns-clause-encloses
returns-clause-encloses c =
    let at_end : c.loop-n.n ≡ 3 = omega arith in
    let sum = subst (λ (n : ℕ). IsSumSoFar c.args.offset n c.args.first.lo c.args.first.hi c.args.second.lo c.args.second.hi c.args.square.lo c.args.square.hi c.loop-n.term.lo c.loop-n.term.hi c.loop-n.sum.lo c.loop-n.sum.hi) at_end c.loop-n.invariant in
    λ x s. rw c.saturating_sub-2.ensures (three_turns c.args.offset c.args.first.lo c.args.first.hi c.args.second.lo c.args.second.hi c.args.square.lo c.args.square.hi c.loop-n.term.lo c.loop-n.term.hi c.loop-n.sum.lo c.loop-n.sum.hi x sum s)

pub returns-clause-narrow : goal.returns-clause-narrow
returns-clause-narrow c =
    let at_end : c.loop-n.n ≡ 3 = omega arith in
    let sum = subst (λ (n : ℕ). IsSumSoFar c.args.offset n c.args.first.lo c.args.first.hi c.args.second.lo c.args.second.hi c.args.square.lo c.args.square.hi c.loop-n.term.lo c.loop-n.term.hi c.loop-n.sum.lo c.loop-n.sum.hi) at_end c.loop-n.invariant in
    λ x s. rw c.saturating_sub-2.ensures (three_turns_narrow c.args.offset c.args.first.lo c.args.first.hi c.args.second.lo c.args.second.hi c.args.square.lo c.args.square.hi c.loop-n.term.lo c.loop-n.term.hi c.loop-n.sum.lo c.loop-n.sum.hi x c.requires.offset sum s)
