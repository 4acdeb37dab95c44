-- What clauses see of a sink in memory.
use Rattle.std.specs.Prelude.{ℕ, List}
use Rattle.lux_io.specs.declared.mem_sink.MemSink.{MemSink}

-- the bytes written so far
abbrev pub sink_bytes : MemSink → List ℕ
sink_bytes sink = sink.bytes.items

-- how many bytes it takes at most
abbrev pub sink_capacity : MemSink → ℕ
sink_capacity sink = sink.capacity

-- the numbers of the calls that fail
abbrev pub sink_failing : MemSink → List ℕ
sink_failing sink = sink.failing.items

-- the number of the next call
abbrev pub sink_calls : MemSink → ℕ
sink_calls sink = sink.calls

abbrev pub sink_faults : MemSink → ℕ
sink_faults sink = sink.faults
