use Rattle.std.proofs.Common.{◌≤◌, List}
use Rattle.prefix_table.specs.declared.rows.Row.{Row}
use Rattle.asmap_back.specs.Ahead.{HasLeft, bits_left}
use Rattle.asmap_back.proofs.back_rows.BackRows.next.Given as goal

abbrev pub invariant-loop-part : goal.invariant-loop-part
invariant-loop-part l = record {
  same : (left : List Row) → HasLeft l.fn.self left → HasLeft l.self left;
  fewer : bits_left l.self ≤ bits_left l.fn.self;
}

abbrev pub decreases-loop-part : goal.decreases-loop-part
decreases-loop-part l = bits_left l.self
