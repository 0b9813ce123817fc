use Rattle.opener_lines.proofs.Fairness.{line_apart}
use Rattle.opener_lines.proofs.law.groups_stay_apart.Goals as goal

pub returns : goal.returns
returns c = line_apart
