use Rattle.opener_lines.specs.Tries.{NoneBefore, ToKeep, try_by}
use Rattle.opener_lines.proofs.tries.find_outbound.Given as goal

-- no try before this one decided
abbrev pub invariant-loop-number : goal.invariant-loop-number
invariant-loop-number g l = NoneBefore (try_by l.rules l.manager l.opener ToKeep l.seed) l.number
