use Rattle.std.proofs.Common.{◌≡◌, ◌+◌, ◌==◌, length}
use Rattle.std.specs.List.{position_or_len}
use Rattle.table_picture.proofs.picture.first_slot.Given as goal

-- the index in the whole is as far from here as in what is left
abbrev pub invariant-loop-rest : goal.invariant-loop-rest
invariant-loop-rest l = record {
  same : l.at + position_or_len (λ m. m == l.mark) l.rest ≡ position_or_len (λ m. m == l.mark) l.marks;
  within : l.at + length l.rest ≡ length l.marks;
}

abbrev pub decreases-loop-rest : goal.decreases-loop-rest
decreases-loop-rest l = length l.rest
