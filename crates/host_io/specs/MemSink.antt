-- A sink in memory: the bytes that it keeps, and which of its calls fail.
use Rattle.std.specs.Prelude.{ℕ, List, ◌++◌}
use Rattle.host_io.specs.Faults.{raised}

-- The bytes kept; the numbers of the calls that fail; how many calls there were, how many of them
-- failed, and how many of them found no memory for their piece.
pub record SinkState : Type 0 where
  pub bytes : List ℕ
  pub fails : List ℕ
  pub calls : ℕ
  pub faults : ℕ
  pub starved : ℕ

-- The sink after a call that kept a piece.
abbrev pub sink_after_write : SinkState → List ℕ → SinkState
sink_after_write sink piece = record sink { bytes = sink.bytes ++ piece; calls = raised sink.calls }

-- The sink after a call that failed.
abbrev pub sink_after_fault : SinkState → SinkState
sink_after_fault sink = record sink { calls = raised sink.calls; faults = raised sink.faults }

-- The sink after a call that found no memory for its piece.
abbrev pub sink_after_no_memory : SinkState → SinkState
sink_after_no_memory sink = record sink {
  calls = raised sink.calls;
  faults = raised sink.faults;
  starved = raised sink.starved;
}
