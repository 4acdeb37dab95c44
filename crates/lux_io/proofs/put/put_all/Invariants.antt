use Rattle.std.proofs.Common.{◌≡◌, ◌≤◌, ◌-◌, length, take}
use Rattle.lux_io.specs.Files.{with_bytes}
use Rattle.lux_io.proofs.put.put_all.Given as goal

-- so many of the first bytes are written
abbrev pub invariant-loop-done : goal.invariant-loop-done
invariant-loop-done g l = record {
  in_range : l.done ≤ length l.bytes;
  written : g.O.Sink.written l.sink ≡ with_bytes (g.O.Sink.written l.fn.sink) (take l.done l.bytes);
  no_fault : g.O.Sink.faults l.sink ≡ g.O.Sink.faults l.fn.sink;
}

abbrev pub decreases-loop-done : goal.decreases-loop-done
decreases-loop-done g l = length l.bytes - l.done
