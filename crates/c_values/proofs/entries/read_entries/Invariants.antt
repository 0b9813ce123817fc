use Rattle.std.proofs.Common.{◌≡◌, ◌≤◌, length, take}
use Rattle.c_values.specs.Entries.{entries_in}
use Rattle.c_values.proofs.entries.read_entries.Given as goal

-- those of the first i structs
abbrev pub invariant-loop-i : goal.invariant-loop-i
invariant-loop-i l = record {
  found : l.entries.items ≡ entries_in (take l.i l.structs);
  few : length l.entries.items ≤ l.i;
}
