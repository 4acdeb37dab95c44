-- The stored planes can be unfolded.
use Rattle.std.proofs.Common.{◌∙◌, ◌≡◌, ap, sym, refl, List}
use Rattle.fx_base.specs.declared.Micro.{Micro}
use Rattle.symmetry_expand.specs.Measured.{first_angle, last_angle, runs_as_needed}
use Rattle.eulumdat_read.specs.Ldt.{planes_at, stored_angles}
use Rattle.eulumdat_read.proofs.BodySteps.{are_stored, some_stored}
use Rattle.eulumdat_read.proofs.stored.read_planes.Goals as goal

pub planes_run-requires : goal.planes_run-requires
planes_run-requires c =
    let s = c.args.head.symmetry in
    some_stored s c.args.head.planes c.deref.result.now c.deref-2.result.now c.requires.head.some_planes c.requires.head.planes (c.deref-2.ensures.value ∙ c.in_ok-planes.ensures)

pub returns : goal.returns
unfolding planes_at
returns c =
    let s = c.args.head.symmetry in
    let angles = c.in_ok-angles.angles.items in
    let planes = c.in_ok-planes.planes.items in
    let said = c.in_ok-angles.ensures in
    let is : planes ≡ stored_angles s c.args.head.planes angles = c.in_ok-planes.ensures ∙ ap (λ (xs : List Micro). stored_angles s c.args.head.planes xs) c.deref.ensures.value in
    let run = ap (λ (ps : List Micro). runs_as_needed s (first_angle ps) (last_angle ps)) (sym c.deref-2.ensures.value) ∙ sym c.planes_run.ensures ∙ c.if-not-planes_run.false in
    let end = said.1.1.0 in (
      rw (said.0, ← is, run) refl,
      (said.1.0, (end, are_stored s c.args.head.planes c.args.head.stored.count angles planes said.1.1.1 c.requires.head.some_planes c.requires.head.whole c.requires.head.count is run)),
    )
