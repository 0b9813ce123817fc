use Rattle.std.proofs.Common.{◌≡◌, ◌+◌, ◌-◌, ◌≤◌, List, length}
use Rattle.asmap_vm.specs.Held.{tree_held}
use Rattle.prefix_table.specs.declared.rows.Row.{Row}
use Rattle.prefix_table.specs.declared.rows.TheConstants.{MAX_ROWS}
use Rattle.asmap_back.specs.Back.{rows_back}
use Rattle.asmap_back.specs.Ahead.{HasLeft}
use Rattle.asmap_back.proofs.decompiling.fits_table.Given as goal

-- some rows are counted, and the others are left
abbrev pub invariant-loop-count : goal.invariant-loop-count
invariant-loop-count l = record {
  left : List Row;
  has : HasLeft l.rows left;
  all : length (rows_back (tree_held l.code)) ≡ l.count + length left;
  few : l.count ≤ MAX_ROWS;
}

abbrev pub decreases-loop-count : goal.decreases-loop-count
decreases-loop-count l = MAX_ROWS - l.count
