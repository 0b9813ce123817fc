use Rattle.std.proofs.Common.{◌≡◌, take}
use Rattle.addrman_c.specs.Sampling.{entries_of}
use Rattle.addrman_c.proofs.sampling.entries_of.Given as goal

-- those of the first peers
abbrev pub invariant-loop-i : goal.invariant-loop-i
invariant-loop-i l = l.entries.items ≡ entries_of l.tables (take l.i l.peers)
