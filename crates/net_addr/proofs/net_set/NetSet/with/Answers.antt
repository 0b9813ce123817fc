use Rattle.std.proofs.Common.{rules}
use Rattle.net_addr.proofs.NetSets.{bits_with-below, nets_of-with}
use Rattle.net_addr.proofs.net_set.NetSet.with.Goals as goal

pub invariant_of-result : goal.invariant_of-result
invariant_of-result c = search (rules, bits_with-below c.self.inside.bits c.args.net c.self.invariant)

pub returns : goal.returns
returns c = search (rules, nets_of-with c.self.inside.bits c.args.net c.self.invariant)
