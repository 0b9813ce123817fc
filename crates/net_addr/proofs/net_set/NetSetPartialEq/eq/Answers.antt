use Rattle.std.proofs.Common.{rules}
use Rattle.net_addr.proofs.NetSets.{same_nets}
use Rattle.net_addr.proofs.net_set.NetSetPartialEq.eq.Goals as goal

pub returns : goal.returns
returns c = search (rules, same_nets c.self.inside.bits c.other.inside.bits c.self.invariant c.other.invariant)
