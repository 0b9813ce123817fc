use Rattle.std.proofs.Common.{◌≡◌, ◌+◌, ◌≤◌, length}
use Rattle.picture_text.specs.Marks.{group_mark}
use Rattle.picture_text.proofs.marks.group_mark.Given as goal

-- the mark in what is left is that in the whole
abbrev pub invariant-loop-rest : goal.invariant-loop-rest
invariant-loop-rest l = record {
  same : group_mark l.mark l.group.items l.rest ≡ group_mark 1 l.group.items l.listed;
  few : l.mark + length l.rest ≤ 7;
}

abbrev pub decreases-loop-rest : goal.decreases-loop-rest
decreases-loop-rest l = length l.rest
