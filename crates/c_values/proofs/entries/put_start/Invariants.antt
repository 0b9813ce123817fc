use Rattle.std.proofs.Common.{◌≡◌, drop, length}
use Rattle.c_values.specs.Entries.{IsEntry}
use Rattle.c_values.proofs.Lists.{Tell}
use Rattle.c_values.proofs.entries.put_start.Given as goal

-- the entries before index i are told, and nothing is written after the last one
abbrev pub invariant-loop-i : goal.invariant-loop-i
invariant-loop-i l = Tell IsEntry l.i l.out l.entries × (drop (length l.entries) l.out ≡ drop (length l.entries) l.initial.out)
