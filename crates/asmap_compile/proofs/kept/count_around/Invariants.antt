use Rattle.std.proofs.Common.{◌≡◌, ℕ, ◌<◌, ◌≤◌, false, length, get_or}
use Rattle.prefix_table.specs.Rows.{row_covers}
use Rattle.prefix_table.specs.declared.rows.Row.{Row}
use Rattle.asmap_compile.proofs.kept.count_around.Given as goal

abbrev pub invariant-loop-count : goal.invariant-loop-count
invariant-loop-count l = (l.count ≤ length l.rows) × ((k : ℕ) (d : Row) → l.count ≤ k → k < length l.rows → row_covers (get_or l.rows k d) l.address ≡ false)

abbrev pub decreases-loop-count : goal.decreases-loop-count
decreases-loop-count l = l.count
