use Rattle.std.proofs.Common.{◌≡◌, drop, length}
use Rattle.c_values.specs.Records.{IsRecord}
use Rattle.c_values.proofs.Lists.{Tell}
use Rattle.c_values.proofs.records.put_start.Given as goal

-- the records before index i are told, and nothing is written after the last one
abbrev pub invariant-loop-i : goal.invariant-loop-i
invariant-loop-i l = Tell IsRecord l.i l.out l.recs × (drop (length l.recs) l.out ≡ drop (length l.recs) l.initial.out)
