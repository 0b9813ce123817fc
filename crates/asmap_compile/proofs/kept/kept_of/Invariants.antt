use Rattle.asmap_compile.proofs.AroundLaws.{IsAround}
use Rattle.asmap_compile.proofs.KeptLaws.{KeepsUpTo}
use Rattle.asmap_compile.proofs.kept.kept_of.Given as goal

abbrev pub invariant-loop-i : goal.invariant-loop-i
invariant-loop-i l = record {
  kept : KeepsUpTo l.fn.rows.items l.kept.items l.i l.count;
  around : IsAround l.fn.rows.items l.i l.around.items;
}
