use Rattle.std.proofs.Common.{◌≡◌, ◌++◌, ◌-◌, ◌≤◌, List, length}
use Rattle.asmap_vm.specs.Held.{tree_held}
use Rattle.prefix_table.specs.declared.rows.Row.{Row}
use Rattle.prefix_table.specs.declared.rows.TheConstants.{MAX_ROWS}
use Rattle.asmap_back.specs.Back.{rows_back}
use Rattle.asmap_back.specs.Ahead.{HasLeft}
use Rattle.asmap_back.proofs.decompiling.rows_of.Given as goal

-- some rows are in the list, and the others are left
abbrev pub invariant-loop-row : goal.invariant-loop-row
invariant-loop-row l = record {
  after : List Row;
  has : HasLeft l.left after;
  all : rows_back (tree_held l.code) ≡ l.rows.items ++ after;
  few : length l.rows.items ≤ MAX_ROWS;
}

abbrev pub decreases-loop-row : goal.decreases-loop-row
decreases-loop-row l = MAX_ROWS - length l.rows.items
