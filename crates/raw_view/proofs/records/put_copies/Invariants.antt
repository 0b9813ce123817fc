use Rattle.std.proofs.Common.{◌≡◌, ◌++◌, take}
use Rattle.raw_view.proofs.records.put_copies.Given as goal

abbrev pub invariant-loop-rec : goal.invariant-loop-rec
invariant-loop-rec l = l.out.items ≡ l.initial.out.items ++ take l.rec-index l.recs
