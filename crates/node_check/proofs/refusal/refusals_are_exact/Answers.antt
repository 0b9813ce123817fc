use Rattle.node_check.proofs.LawsOf.{exact}
use Rattle.node_check.proofs.refusal.refusals_are_exact.Goals as goal

pub returns : goal.returns
returns c = exact
