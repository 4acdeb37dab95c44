-- The one plane is called 0.
use Rattle.std.proofs.Common.{◌≡◌, ◌∙◌, ◌∷◌, [], refl, List, ap, arith, length, slice_set}
use Rattle.fx_base.specs.declared.Micro.{Micro}
use Rattle.photo_table.specs.Kept.{table_of}
use Rattle.symmetry_expand.specs.AllRound.{all_round}
use Rattle.symmetry_expand.specs.Measured.{micro}
use Rattle.symmetry_expand.proofs.expansion.one_plane.Goals as goal

only : (ps : List Micro) → length ps ≡ 1 → slice_set ps 0 (micro 0) ≡ micro 0 ∷ []
only [] h = absurd (omega arith)
only (x ∷ []) h = refl
only (x ∷ y ∷ ps) h = absurd (omega arith)

pub returns : goal.returns
unfolding all_round
returns c =
    c.new.ensures ∙ ap (λ (ps : List Micro). table_of ps c.args.measured.gammas.items c.args.measured.values.items) (only c.args.measured.planes.items c.requires.suited)
