use Rattle.opener_lines.proofs.Fairness.{step_fair}
use Rattle.opener_lines.proofs.law.tries_are_fair.Goals as goal

pub returns : goal.returns
returns c = step_fair
