use Rattle.std.proofs.Common.{rules}
use Rattle.net_addr.proofs.NetSets.{has-nets_of}
use Rattle.net_addr.proofs.net_set.NetSet.has.Goals as goal

pub returns : goal.returns
returns c = search (rules, has-nets_of c.self.inside.bits c.args.net)
