-- Planes that were all measured are the table's.
use Rattle.std.proofs.Common.{◌∙◌, map, sym, List, ℕ, ap}
use Rattle.photo_table.specs.Table.{Table}
use Rattle.fx_base.specs.Units.{of_span}
use Rattle.photo_table.specs.Kept.{angle_of}
use Rattle.symmetry_expand.specs.AllRound.{all_round}
use Rattle.symmetry_expand.proofs.Planes.{plain_planes, plain_lifted}
use Rattle.symmetry_expand.proofs.expansion.every_plane.Goals as goal

pub new-requires-clause-planes : goal.new-requires-clause-planes
new-requires-clause-planes c = plain_planes c.args.measured.planes.items c.requires.rise c.requires.suited.0 c.requires.suited.1

pub returns : goal.returns
unfolding all_round
returns c =
    c.new.ensures ∙ ap (λ (ps : List ℕ). let t : Table = record { planes = ps; gammas = map angle_of c.args.measured.gammas.items; values = map of_span c.args.measured.values.items } in t)
    (sym (plain_lifted c.args.measured.planes.items c.requires.rise c.requires.suited.0 c.requires.suited.1))
