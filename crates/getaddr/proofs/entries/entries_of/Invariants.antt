use Rattle.std.proofs.Common.{◌≡◌, ◌≤◌, length, take}
use Rattle.std.specs.Prelude.{flat_map, option_to_list}
use Rattle.getaddr.specs.Fresh.{entry_of}
use Rattle.getaddr.proofs.entries.entries_of.Given as goal

-- the entries of the first i peers
abbrev pub invariant-loop-i : goal.invariant-loop-i
invariant-loop-i g l = record {
  found : l.entries.items ≡ flat_map (λ p. option_to_list (entry_of l.tables l.bans l.time l.now p)) (take l.i l.peers);
  few : length l.entries.items ≤ l.i;
}
