-- What holds before each turn of the loops of `read_lamps`.
use Rattle.std.proofs.Common.{◌≡◌, All, Some, length}
use Rattle.csv.specs.Reading.{expected_len}
use Rattle.claim_file.specs.Rows.{IsAt, rows_left}
use Rattle.dimming_plan.specs.PlanFile.{lamps_from, IsPlanLamp}
use Rattle.dimming_plan.proofs.PlanLamps.{behind}
use Rattle.dimming_plan.proofs.file.read_lamps.Given as goal

abbrev pub invariant-loop-n : goal.invariant-loop-n
invariant-loop-n l = record {
  at : IsAt l.reader;
  width : expected_len l.reader ≡ Some l.fn.width;
  size : length l.plan.items ≡ l.n;
  within : All IsPlanLamp l.plan.items;
  so_far : lamps_from l.lamps l.fn.width 0 (rows_left l.initial.reader) ≡ behind l.plan.items (lamps_from l.lamps l.fn.width l.n (rows_left l.reader));
}
