use Rattle.net_addr.proofs.OneReading.{one_address, one_peer}
use Rattle.net_addr.proofs.law.texts_have_one_meaning.Goals as goal

pub returns-clause-addr : goal.returns-clause-addr
returns-clause-addr c = one_address

pub returns-clause-peer : goal.returns-clause-peer
returns-clause-peer c = one_peer
