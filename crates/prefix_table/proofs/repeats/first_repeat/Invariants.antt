use Rattle.prefix_table.proofs.RepeatLaws.{IsFirstBelow}
use Rattle.prefix_table.proofs.repeats.first_repeat.Given as goal

abbrev pub invariant-loop-i : goal.invariant-loop-i
invariant-loop-i l = IsFirstBelow l.rows l.i l.first
