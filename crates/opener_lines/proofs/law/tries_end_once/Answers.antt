use Rattle.opener_lines.proofs.Outcomes.{one_outcome, some_outcome}
use Rattle.opener_lines.proofs.law.tries_end_once.Goals as goal

pub returns-clause-some : goal.returns-clause-some
returns-clause-some c = some_outcome

pub returns-clause-only : goal.returns-clause-only
returns-clause-only c = one_outcome
