use Rattle.std.proofs.Common.{ap, ◌∙◌, subst, length, ◌<◌, ◌≡◌}
use Rattle.std.specs.List.{flat_map}
use Rattle.patch_mesh.specs.declared.patch.MeshFault.TheVariants.{TooManyPatches}
use Rattle.patch_mesh.specs.Patches.{patches, tilings, tiling_patches}
use Rattle.patch_mesh.proofs.Fits.{patches_fit, patches_reach}
use Rattle.patch_mesh.proofs.make.mesh.Goals as goal

pub returns-then-count-gt-MOST_PATCHES-clause-refused : goal.returns-then-count-gt-MOST_PATCHES-clause-refused
unfolding patches
returns-then-count-gt-MOST_PATCHES-clause-refused c = λ _.
    let e : c.patch_count-count.result ≡ length (flat_map tiling_patches (tilings c.args.room.now)) =
    c.patch_count-count.ensures ∙ ap (λ xs. length (flat_map tiling_patches xs)) (c.deref.ensures.value ∙ c.in_ok-tilings.ensures.tilings) in
    (subst (λ n. 2048 < n) e c.if-count-gt-MOST_PATCHES.true, ap TooManyPatches e)

pub returns-clause-patches : goal.returns-clause-patches
unfolding patches
returns-clause-patches c =
    c.in_ok-patches.ensures ∙ ap (flat_map tiling_patches) (c.deref-2.ensures.value ∙ c.in_ok-tilings.ensures.tilings)

pub returns-clause-each : goal.returns-clause-each
returns-clause-each c = patches_fit _ _ c.requires (returns-clause-patches c)

pub returns-clause-reach : goal.returns-clause-reach
returns-clause-reach c = patches_reach _ _ c.requires (returns-clause-patches c)
