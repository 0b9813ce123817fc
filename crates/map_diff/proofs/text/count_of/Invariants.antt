use Rattle.std.proofs.Common.{◌≡◌, ◌+◌, ◌≤◌, take}
use Rattle.map_diff.specs.Text.{count_of}
use Rattle.map_diff.proofs.text.count_of.Given as goal

abbrev pub invariant-loop-row : goal.invariant-loop-row
invariant-loop-row l = record {
  counted : l.count.less + l.count.rows ≡ count_of l.ipv4 (take l.row-index l.rows);
  few : l.count.rows ≤ l.row-index;
}
