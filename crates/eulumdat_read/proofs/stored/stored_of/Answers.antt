-- One stored plane more.
use Rattle.std.proofs.Common.{◌∙◌, ◌≡◌, ◌+◌, ◌-◌, ◌%◌, ◌∷◌, [], sym, refl, ap, ℕ, slice_index_or, length}
use Rattle.fx_base.specs.declared.Micro.{Micro}
use Rattle.symmetry_expand.specs.Measured.{no_angle}
use Rattle.symmetry_expand.specs.Stored.{first_stored}
use Rattle.symmetry_expand.proofs.Joined.{joined_none, appended}
use Rattle.eulumdat_read.specs.Ldt.{stored_angle, handed_on}
use Rattle.eulumdat_read.proofs.stored.stored_of.Goals as goal

pub loop-p-init : goal.loop-p-init
loop-p-init c = c.in_ok-planes.ensures.items ∙ sym (joined_none (λ (p : ℕ). stored_angle c.args.head.symmetry c.args.head.planes c.args.angles.now p ∷ []))

pub loop-p-preserved : goal.loop-p-preserved
loop-p-preserved c =
    appended (λ (p : ℕ). stored_angle c.args.head.symmetry c.args.head.planes c.args.angles.now p ∷ []) c.loop-p.p _ _ _ c.in_ok-push.ensures.items c.loop-p.invariant
    (let planes : length c.args.angles.now ≡ c.args.head.planes = c.requires.angles.count in
    let e : (c.args.head.stored.first - 1 + c.loop-p.p) % length c.args.angles.now ≡ (first_stored c.args.head.symmetry c.args.head.planes - 1 + c.loop-p.p) % c.args.head.planes = rw (c.requires.head.first, planes) refl in
    ap (λ (m : Micro). m ∷ []) (c.hand_on.ensures ∙ ap (λ (k : ℕ). handed_on c.args.head.symmetry (slice_index_or c.args.angles.now k no_angle)) e))
