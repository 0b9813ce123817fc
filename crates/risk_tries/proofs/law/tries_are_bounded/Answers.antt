use Rattle.peer_open.specs.declared.opener.TheConstants.{MAX_OUTBOUND}
use Rattle.risk_tries.proofs.Bounded.{by_tries, no_more_tries}
use Rattle.risk_tries.proofs.law.tries_are_bounded.Goals as goal

pub returns-clause-part : goal.returns-clause-part
returns-clause-part c = λ st now n m unit theirs groups sound are. by_tries st now n m unit theirs groups sound are MAX_OUTBOUND

pub returns-clause-whole : goal.returns-clause-whole
returns-clause-whole c = λ st now n m theirs. no_more_tries st now n m theirs MAX_OUTBOUND
