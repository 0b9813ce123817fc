use Rattle.picture_laws.proofs.Wide.{counts-wide}
use Rattle.picture_laws.proofs.law.wide_groups_are_counted.Goals as goal

pub returns : goal.returns
returns c view = counts-wide view
