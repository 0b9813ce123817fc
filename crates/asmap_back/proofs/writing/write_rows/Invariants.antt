use Rattle.std.proofs.Common.{◌≤◌, List}
use Rattle.asmap_vm.specs.Held.{tree_held}
use Rattle.prefix_table.specs.Print.{table_text}
use Rattle.prefix_table.specs.declared.rows.Row.{Row}
use Rattle.asmap_back.specs.Back.{rows_back}
use Rattle.asmap_back.specs.Ahead.{HasLeft, bits_left}
use Rattle.asmap_back.proofs.Pieces.{Waits}
use Rattle.asmap_back.proofs.writing.write_rows.Given as goal

-- some rows are written or wait in the piece, and the others are left
abbrev pub invariant-loop-row : goal.invariant-loop-row
invariant-loop-row g l = record {
  left : List Row;
  has : HasLeft l.rows left;
  waits : Waits (table_text (rows_back (tree_held l.code))) left l.piece.items (g.K.Sink.written l.fn.out) (g.K.Sink.written l.out);
  never_falls : g.K.Sink.faults l.fn.out ≤ g.K.Sink.faults l.out;
}

abbrev pub decreases-loop-row : goal.decreases-loop-row
decreases-loop-row g l = bits_left l.rows
