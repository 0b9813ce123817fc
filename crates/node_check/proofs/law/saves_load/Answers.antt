use Rattle.node_check.proofs.LawsOf.{as_saved}
use Rattle.node_check.proofs.law.saves_load.Goals as goal

pub returns : goal.returns
returns c = as_saved
