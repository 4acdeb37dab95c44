-- One plane more.
use Rattle.std.proofs.Common.{◌+◌, ◌-◌, ◌∷◌, [], ℕ, ◌∙◌, sym, ap}
use Rattle.fx_base.specs.declared.Micro.{Micro}
use Rattle.symmetry_expand.specs.Measured.{lifted, micro}
use Rattle.symmetry_expand.specs.Steps.{zigzag}
use Rattle.symmetry_expand.proofs.Joined.{joined_none, appended}
use Rattle.symmetry_expand.proofs.turn.turn_planes.Goals as goal

pub loop-i-init : goal.loop-i-init
loop-i-init c = c.in_ok-all.ensures.items ∙ sym (joined_none (λ (i : ℕ). micro (zigzag (lifted c.args.planes.now) (c.args.start + i) - c.args.base) ∷ []))

pub loop-i-preserved : goal.loop-i-preserved
loop-i-preserved c =
    appended (λ (i : ℕ). micro (zigzag (lifted c.args.planes.now) (c.args.start + i) - c.args.base) ∷ []) c.loop-i.i _ _ _ c.in_ok-push.ensures.items c.loop-i.invariant
    (ap (λ (x : Micro). x ∷ []) c.micro_of.ensures ∙ ap (λ (x : ℕ). micro x ∷ []) (c.saturating_sub-angle.ensures ∙ ap (λ (z : ℕ). z - c.args.base) c.step.ensures.at))
