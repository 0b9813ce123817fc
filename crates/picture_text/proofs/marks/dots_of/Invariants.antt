use Rattle.std.proofs.Common.{◌≡◌, ◌≤◌, take}
use Rattle.picture_text.specs.Marks.{dots_of}
use Rattle.picture_text.proofs.marks.dots_of.Given as goal

abbrev pub invariant-loop-next : goal.invariant-loop-next
invariant-loop-next l = record {
  value : l.count ≡ dots_of (take l.next-index l.marks) l.mark;
  few : l.count ≤ l.next-index;
}
