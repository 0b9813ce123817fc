use Rattle.std.proofs.Common.{◌≡◌, length}
use Rattle.picture_text.specs.Marks.{has_mark}
use Rattle.picture_text.proofs.marks.has_mark.Given as goal

-- what is left has the mark if the whole has it
abbrev pub invariant-loop-rest : goal.invariant-loop-rest
invariant-loop-rest l = record {
  same : has_mark l.rest l.mark ≡ has_mark l.marks l.mark;
}

abbrev pub decreases-loop-rest : goal.decreases-loop-rest
decreases-loop-rest l = length l.rest
