use Rattle.std.proofs.Common.{◌≡◌, ◌+◌, ◌-◌, ◌≤◌, [], vec_len}
use Rattle.host_io.specs.Reading.{MovesBytes}
use Rattle.host_io.specs.declared.reading.TheConstants.{PIECE}
use Rattle.raw_file.proofs.input.read_input.Given as goal

-- the text has the first bytes of the input
abbrev pub invariant-loop-text : goal.invariant-loop-text
invariant-loop-text g l = record {
  room : vec_len l.piece ≡ PIECE;
  moved : MovesBytes (g.L.Source.left l.fn.source) (g.L.Source.left l.source) [] l.text.items;
  within : vec_len l.text ≤ l.limit + 1;
  never_falls : g.L.Source.faults l.fn.source ≤ g.L.Source.faults l.source;
}

abbrev pub decreases-loop-text : goal.decreases-loop-text
decreases-loop-text g l = (l.limit + 1) - vec_len l.text
