use Rattle.std.proofs.Common.{◌≡◌, ◌==◌, ◌≤◌, count_by, take}
use Rattle.node_json.proofs.groups.count_unmapped.Given as goal

abbrev pub invariant-loop-number : goal.invariant-loop-number
invariant-loop-number l = record {
  value : l.count ≡ count_by (λ n. n == 0) (take l.number-index l.numbers);
  few : l.count ≤ l.number-index;
}
