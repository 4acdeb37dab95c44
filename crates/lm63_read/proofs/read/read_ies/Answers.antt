-- What was read can be unfolded, and stands for the table of its file.
use Rattle.std.proofs.Common.{length, sym, refl, ◌∙◌}
use Rattle.std.proofs.lemmas.Bool.{false≢true}
use Rattle.symmetry_expand.specs.Measured.{measured_table}
use Rattle.symmetry_expand.specs.AllRound.{all_round}
use Rattle.symmetry_expand.proofs.RoundedAll.{all_round_is_rounded}
use Rattle.lm63_read.specs.Files.{IesFile}
use Rattle.lm63_read.specs.Tables.{kept_planes, kept_values, measured}
use Rattle.lm63_read.proofs.Rounds.{measured_rounded}
use Rattle.lm63_read.proofs.Whole.{unfolds_in, suited_to, runs_for}
use Rattle.lm63_read.proofs.read.read_ies.Goals as goal

pub unreachable-requires : goal.unreachable-requires
unreachable-requires c =
    let u = unfolds_in _ _ _ _ c.in_ok-file.ensures in
    let is = rw c.deref.ensures.value at c.symmetry_in.ensures in
    c.in_default.not-Some u.symmetry (rw (is, u.stands) refl)

pub kept_of-requires-clause-planes : goal.kept_of-requires-clause-planes
kept_of-requires-clause-planes c = (unfolds_in _ _ _ _ c.in_ok-file.ensures).few_planes

pub kept_of-requires-clause-gammas : goal.kept_of-requires-clause-gammas
kept_of-requires-clause-gammas c = (unfolds_in _ _ _ _ c.in_ok-file.ensures).few_gammas

pub expand-requires-clause-rise : goal.expand-requires-clause-rise
expand-requires-clause-rise c = rw c.kept_of.ensures.planes ((unfolds_in _ _ _ _ c.in_ok-file.ensures).rise)

pub expand-requires-clause-suited : goal.expand-requires-clause-suited
expand-requires-clause-suited c =
    let e = c.in_ok-file.ensures in
    let is = rw c.deref.ensures.value at (sym c.in-Some.ensures) in
    rw c.kept_of.ensures.planes (suited_to _ c.in-Some.symmetry (unfolds_in _ _ _ _ e) is)

pub expand-requires-clause-gammas : goal.expand-requires-clause-gammas
expand-requires-clause-gammas c = rw c.kept_of.ensures.gammas ((unfolds_in _ _ _ _ c.in_ok-file.ensures).gammas)

pub expand-requires-clause-values : goal.expand-requires-clause-values
expand-requires-clause-values c =
    let e = c.in_ok-file.ensures in
    rw (c.kept_of.ensures.values, e.are) ((unfolds_in _ _ _ _ e).values)

pub expand-requires-clause-all : goal.expand-requires-clause-all
expand-requires-clause-all c =
    let e = c.in_ok-file.ensures in
    rw (c.kept_of.ensures.planes, c.kept_of.ensures.gammas, c.kept_of.ensures.values, e.are) ((unfolds_in _ _ _ _ e).all)

pub unreachable-requires-in-PlaneAngle : goal.unreachable-requires-in-PlaneAngle
unreachable-requires-in-PlaneAngle c =
    let is = rw c.deref.ensures.value at (sym c.in-Some.ensures) in
    let runs = runs_for _ c.in-Some.symmetry (unfolds_in _ _ _ _ c.in_ok-file.ensures) is in
    let refused = rw (c.in-PlaneAngle.is, c.kept_of.ensures.planes) at c.in-Err.ensures.refused in
    false≢true (sym refused ∙ runs)

pub returns-in-Ok-clause-table : goal.returns-in-Ok-clause-table
returns-in-Ok-clause-table c =
    let e = c.in_ok-file.ensures in
    let file = c.in_ok-file.file in
    let f : IesFile = record { verticals = file.verticals.items; horizontals = file.horizontals.items; values = e.products } in
    let s = c.in-Some.symmetry in
    let is = rw c.deref.ensures.value at (sym c.in-Some.ensures) in
    record {
      file = f;
      read = e.is;
      table = all_round s (measured f);
      of_file = record { symmetry = s; stands = is; table = refl };
      rounded = rw (c.in-Ok.ensures.table, c.kept_of.ensures.planes, c.kept_of.ensures.gammas, c.kept_of.ensures.values)
          (all_round_is_rounded s (measured_table (kept_planes file.horizontals.items) file.verticals.items (kept_values file.horizontals.items (length file.verticals.items) file.spans.items))
          (measured f) (measured_rounded f file.spans.items e.are));
    }
