use Rattle.log_laws.proofs.SharesOf.{keeps_shares}
use Rattle.log_laws.proofs.causes.groups_reach_few.Goals as goal

pub returns : goal.returns
returns c = keeps_shares
