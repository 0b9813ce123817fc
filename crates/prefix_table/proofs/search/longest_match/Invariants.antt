use Rattle.std.proofs.Common.{◌≤◌}
use Rattle.prefix_table.proofs.SearchLaws.{IsLeft}
use Rattle.prefix_table.proofs.search.longest_match.Given as goal

abbrev pub invariant-loop-row : goal.invariant-loop-row
invariant-loop-row l = record { top : l.max ≤ 128; left : IsLeft l.rows l.address l.max }

abbrev pub decreases-loop-row : goal.decreases-loop-row
decreases-loop-row l = l.max
