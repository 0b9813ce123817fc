use Rattle.std.proofs.Common.{◌≡◌, ◌+◌, ◌≤◌, take}
use Rattle.taking.specs.Messages.{take_entries}
use Rattle.node_calls.proofs.adding.take_entries.Given as goal

-- the entries before index i are taken
abbrev pub invariant-loop-i : goal.invariant-loop-i
invariant-loop-i g l = record {
  count : l.count ≡ (take_entries l.fn.tables l.now (take l.i l.entries) l.source l.words).answer;
  state : l.tables ≡ (take_entries l.fn.tables l.now (take l.i l.entries) l.source l.words).state;
  numbers : l.tables.next_number ≤ l.fn.tables.next_number + l.i;
  few : l.count ≤ l.i;
}
