use Rattle.std.proofs.Common.{◌≡◌, ◌++◌, take}
use Rattle.placing.specs.Inside.{asmap_of}
use Rattle.addrman_run.specs.GroupChanges.{change_lines, changes_of}
use Rattle.addrman_run.proofs.group_changes.put_changes.Given as goal

abbrev pub invariant-loop-rec : goal.invariant-loop-rec
invariant-loop-rec l = record {
  count : l.count ≡ changes_of (asmap_of l.old) (asmap_of l.new) (take l.rec-index l.recs);
  lines : l.out.items ≡ l.initial.out.items ++ change_lines (asmap_of l.old) (asmap_of l.new) (take l.rec-index l.recs);
}
