use Rattle.std.proofs.Common.{length}
use Rattle.prefix_table.proofs.PlainLaws.{PlainSoFar}
use Rattle.prefix_table.proofs.rows.plain_rows.Given as goal

abbrev pub invariant-loop-rest : goal.invariant-loop-rest
invariant-loop-rest l = PlainSoFar l.text l.rest l.rows.items l.line

abbrev pub decreases-loop-rest : goal.decreases-loop-rest
decreases-loop-rest l = length l.rest
