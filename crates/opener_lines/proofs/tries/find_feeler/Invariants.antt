use Rattle.opener_lines.specs.Tries.{NoneBefore, ToTest, try_by}
use Rattle.opener_lines.proofs.tries.find_feeler.Given as goal

-- no try before this one decided
abbrev pub invariant-loop-number : goal.invariant-loop-number
invariant-loop-number g l = NoneBefore (try_by l.rules l.manager l.opener (ToTest l.occupant) l.seed) l.number
