use Rattle.std.proofs.Common.{◌≡◌, ◌+◌, ◌*◌, ◌≤◌, take, sum_by}
use Rattle.peer_index.specs.Order.{records}
use Rattle.node_calls.proofs.FileLengths.{added}
use Rattle.node_calls.proofs.records.count_file_length.Given as goal

-- the records before this position are added, each at most 131 bytes
abbrev pub invariant-loop-position : goal.invariant-loop-position
invariant-loop-position g l = record {
  sum : l.length ≡ 4210 + sum_by added (take l.position (records l.index));
  few : l.length ≤ 4210 + 131 * l.position;
}
