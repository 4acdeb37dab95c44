use Rattle.std.proofs.Common.{◌≡◌, ℕ}
use Rattle.sight_index.specs.Masks.{HasBit}
use Rattle.sight_index.specs.Probes.{AsksNearAlone, IsTrueAt}
use Rattle.sight_index.proofs.look.first_met.Given as goal

-- of the boxes that are no longer left none is met
abbrev pub invariant-loop-left : goal.invariant-loop-left
invariant-loop-left g l = record {
  same : g.P.Probe.truths l.probe ≡ g.P.Probe.truths l.fn.probe;
  within : (b : ℕ) → HasBit l.left b → HasBit l.mask b;
  gone : (b : ℕ) → HasBit l.mask b → ¬ HasBit l.left b → ¬ IsTrueAt (g.P.Probe.truths l.fn.probe) b;
  asked : AsksNearAlone (HasBit l.mask) (g.P.Probe.asked l.fn.probe) (g.P.Probe.asked l.probe);
}

abbrev pub decreases-loop-left : goal.decreases-loop-left
decreases-loop-left g l = l.left
