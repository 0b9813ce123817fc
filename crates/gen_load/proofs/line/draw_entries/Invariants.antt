use Rattle.std.proofs.Common.{◌≡◌, ◌≤◌, ◌-◌, ◌++◌, length, take}
use Rattle.gen_load.specs.Log.{draw_entries, past_entries}
use Rattle.gen_load.proofs.line.draw_entries.Given as goal

-- the entries that were drawn and those that are to come are all of them
abbrev pub invariant-loop-i : goal.invariant-loop-i
invariant-loop-i l = record {
  late : 86400 ≤ l.position.time;
  whole : take l.i l.entries ++ draw_entries (l.count - l.i) l.position ≡ draw_entries l.count l.fn.position;
  end : past_entries (l.count - l.i) l.position ≡ past_entries l.count l.fn.position;
  size : length l.entries ≡ 4;
}
