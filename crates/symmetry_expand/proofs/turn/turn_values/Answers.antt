-- One row more.
use Rattle.std.proofs.Common.{◌+◌, ℕ, ◌∙◌, sym, ap}
use Rattle.symmetry_expand.specs.AllRound.{row_of}
use Rattle.symmetry_expand.specs.Steps.{source}
use Rattle.symmetry_expand.proofs.Joined.{joined_none, appended, row_taken}
use Rattle.symmetry_expand.proofs.turn.turn_values.Goals as goal

pub loop-i-init : goal.loop-i-init
loop-i-init c = c.in_ok-all.ensures.items ∙ sym (joined_none (λ (i : ℕ). row_of c.args.gammas (source c.args.n (c.args.start + i)) c.args.values.now))

pub loop-i-preserved : goal.loop-i-preserved
loop-i-preserved c =
    appended (λ (i : ℕ). row_of c.args.gammas (source c.args.n (c.args.start + i)) c.args.values.now) c.loop-i.i _ _ _ c.in_ok-extend_from_slice.ensures.items c.loop-i.invariant
    (row_taken c.args.gammas c.source-row.result c.args.values.now ∙ ap (λ (k : ℕ). row_of c.args.gammas k c.args.values.now) c.source-row.ensures.source)
