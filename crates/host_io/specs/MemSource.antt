-- A source in memory: what is left of its bytes, and which of its calls fail.
use Rattle.std.specs.Prelude.{ℕ, List, drop}
use Rattle.host_io.specs.Faults.{raised}

-- The bytes left; the most that one call gives; the numbers of the calls that fail; how many calls
-- there were, and how many of them failed.
pub record SourceState : Type 0 where
  pub left : List ℕ
  pub piece : ℕ
  pub fails : List ℕ
  pub calls : ℕ
  pub faults : ℕ

-- The source after a call that gave n bytes.
abbrev pub source_after_read : SourceState → ℕ → SourceState
source_after_read source n = record source {
  left = drop n source.left;
  calls = raised source.calls;
}

-- The source after a call that failed.
abbrev pub source_after_fault : SourceState → SourceState
source_after_fault source = record source {
  calls = raised source.calls;
  faults = raised source.faults;
}
