-- What a sink in memory holds, and what its calls leave.
use Rattle.std.specs.Prelude.{ℕ, if◌then◌else◌, List, ◌++◌, length}
use Rattle.std.specs.declared.option.Option.TheVariants.{Some}
use Rattle.cg_out.specs.Outside.{SinkSeen}
use Rattle.cg_out.specs.InMemory.{Space, History, history_of, fits, next_keep, front_of, told_below}
use Rattle.cg_out.specs.declared.memory_sink.MemorySink.{MemorySink}

abbrev pub sink_bytes : MemorySink → List ℕ
sink_bytes s = s.bytes.items

abbrev pub sink_space : MemorySink → Space
sink_space s = record { bytes = s.room; writes = s.places }

abbrev pub sink_history : MemorySink → History
sink_history s = history_of s.log

-- what was written is told, and how many calls there were up to the last value of a counter
abbrev pub sink_seen : MemorySink → SinkSeen
sink_seen s = record { written = Some (sink_bytes s); faults = s.log.faults; calls = told_below s.log.calls }

-- the bytes after a write, which changes nothing where it does not fit
abbrev pub bytes_after : List ℕ → Space → History → List ℕ → List ℕ
bytes_after written space history bytes =
    if fits space (length bytes) then written ++ front_of (next_keep history) bytes else written
