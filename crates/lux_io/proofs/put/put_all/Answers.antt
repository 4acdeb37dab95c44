use Rattle.std.proofs.Common.{◌∙◌, arith, length-drop, length-take, ℕ}
use Rattle.lux_io.proofs.Written.{written_further}
use Rattle.lux_io.proofs.put.put_all.Goals as goal

-- the piece that the sink took comes after the bytes before it
pub loop-done-preserved : goal.loop-done-preserved
loop-done-preserved g c = record {
  in_range = omega (arith, c.in-Ok.ensures.bound, length-drop {A = ℕ}, length-take {A = ℕ});
  written = written_further _ _ _ _ _ _ c.loop-done.invariant.written c.in-Ok.ensures.bytes;
  no_fault = c.in-Ok.ensures.faults.only ∙ c.loop-done.invariant.no_fault;
}
