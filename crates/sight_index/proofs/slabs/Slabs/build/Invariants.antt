use Rattle.sight_index.proofs.Gathered.{AreFirstSlabs}
use Rattle.sight_index.proofs.slabs.Slabs.build.Given as goal

abbrev pub invariant-loop-k : goal.invariant-loop-k
invariant-loop-k l = AreFirstSlabs l.k l.axis l.edge l.blocks l.kept.items
