-- What was measured makes a table, which the law of folds speaks of.
use Rattle.std.proofs.Common.{ℕ, ◌*◌, ◌<◌, ◌≡◌, List, length, arith, true, inl, inr}
use Rattle.std.proofs.Math.ListN.{length-map}
use Rattle.fx_base.specs.Ends.{Ends}
use Rattle.fx_base.specs.Units.{of_span}
use Rattle.fx_base.specs.declared.Micro.{Micro}
use Rattle.photo_table.specs.Kept.{AreGammas, angle_of}
use Rattle.photo_table.specs.Table.{IsTable}
use Rattle.symmetry_expand.specs.declared.symmetry.Symmetry.{Symmetry}
use Rattle.symmetry_expand.specs.declared.symmetry.Symmetry.TheVariants.{None, Axis, Plane0, Plane90, Both}
use Rattle.symmetry_expand.specs.AllRound.{all_round}
use Rattle.symmetry_expand.specs.Fold.{AreEnds, RunAs, IsFoldedBy}
use Rattle.symmetry_expand.specs.Measured.{RiseWithinTurn, AreSuited, first_angle, last_angle, lifted, measured_table, runs_as_needed}
use Rattle.symmetry_expand.proofs.AllFolded.{all_round_is_folded}
use Rattle.symmetry_expand.proofs.Ends.{LiftedFrom, plane0_runs, both_runs, plane90_runs}
use Rattle.symmetry_expand.proofs.Planes.{lifted_length, lifted_rise, plain_lifted, plain_planes}

pub measured_is_table : (ps gs : List Micro) (vs : List Ends) → RiseWithinTurn ps → AreGammas gs → length vs ≡ length ps * length gs → IsTable (measured_table ps gs vs)
measured_is_table ps gs vs p g all =
    let r = lifted_rise ps p in
    record {
      some_plane = r.some;
      planes_rise = r.rise;
      first_plane = let f = r.first in omega arith;
      one_turn = r.one_turn;
      two_gammas = rw (length-map gs angle_of) g.two;
      gammas_rise = λ i j k l. g.rise i j k (rw (length-map gs angle_of) at l);
      gammas_up_to = λ j k. g.up_to j (rw (length-map gs angle_of) at k);
      all_values = rw (length-map vs of_span, length-map gs angle_of, lifted_length ps) all;
    }

ends_of : (ps : List Micro) (a b : ℕ) → a < b → LiftedFrom ps a b → AreEnds (lifted ps) a b
ends_of ps a b p h = record { two = p; begins = h.first; ends = h.last }

pub measured_runs : (s : Symmetry) (ps : List Micro) → RiseWithinTurn ps → AreSuited s ps → runs_as_needed s (first_angle ps) (last_angle ps) ≡ true → RunAs s (lifted ps)
measured_runs None ps h suited r =
    λ k p.
    let e = plain_lifted ps h suited.0 suited.1 in
    rw e ((plain_planes ps h suited.0 suited.1).below k (rw (lifted_length ps) at p))
measured_runs Axis ps h suited r = rw (lifted_length ps) suited
measured_runs Plane0 ps h suited r = ends_of ps 0 180000000 (omega arith) (plane0_runs ps h r)
measured_runs Plane90 ps h suited r = elim (plane90_runs ps h r) [
  | inl g ↦ inl (ends_of ps 270000000 450000000 (omega arith) g)
  | inr g ↦ inr (ends_of ps 90000000 270000000 (omega arith) g)
]
measured_runs Both ps h suited r = ends_of ps 0 90000000 (omega arith) (both_runs ps h r)

pub measured_folded : (s : Symmetry) (ps gs : List Micro) (vs : List Ends) → RiseWithinTurn ps → AreSuited s ps → AreGammas gs → length vs ≡ length ps * length gs
    → runs_as_needed s (first_angle ps) (last_angle ps) ≡ true → IsFoldedBy s (measured_table ps gs vs) (all_round s (measured_table ps gs vs))
measured_folded s ps gs vs p suited g all r = all_round_is_folded s (measured_table ps gs vs) (measured_is_table ps gs vs p g all) (measured_runs s ps p suited r)
