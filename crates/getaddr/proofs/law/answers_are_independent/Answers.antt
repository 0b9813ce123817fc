use Rattle.getaddr.proofs.Independent.{next_one, next_peers, next_some}
use Rattle.getaddr.proofs.law.answers_are_independent.Goals as goal

pub returns-clause-peers : goal.returns-clause-peers
returns-clause-peers c = next_peers

pub returns-clause-some : goal.returns-clause-some
returns-clause-some c = next_some

pub returns-clause-one : goal.returns-clause-one
returns-clause-one c = next_one
