use Rattle.series_enclose.proofs.TermSums.{IsSumSoFar}
use Rattle.series_enclose.proofs.turns.series_bounds.Given as goal

abbrev pub invariant-loop-n : goal.invariant-loop-n
invariant-loop-n l =
    IsSumSoFar l.fn.offset l.n l.fn.first.lo l.fn.first.hi l.fn.second.lo l.fn.second.hi l.fn.square.lo l.fn.square.hi l.term.lo l.term.hi l.sum.lo l.sum.hi
