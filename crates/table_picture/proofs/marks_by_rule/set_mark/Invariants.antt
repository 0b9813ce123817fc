use Rattle.std.proofs.Common.{◌≡◌, ◌+◌, ◌≤◌, length}
use Rattle.table_picture.specs.Slots.{set_mark}
use Rattle.table_picture.proofs.marks_by_rule.set_mark.Given as goal

-- the mark in what is left is that in the whole
abbrev pub invariant-loop-rest : goal.invariant-loop-rest
invariant-loop-rest l = record {
  same : set_mark l.mark l.rest l.addr l.number ≡ set_mark 1 l.sets l.addr l.number;
  few : l.mark + length l.rest ≤ 7;
}

abbrev pub decreases-loop-rest : goal.decreases-loop-rest
decreases-loop-rest l = length l.rest
