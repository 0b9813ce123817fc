use Rattle.std.proofs.Common.{rules}
use Rattle.net_addr.specs.Same.{same_address}
use Rattle.net_addr.proofs.address_traits.NetAddrPartialEq.eq.Goals as goal

pub returns-then-number : goal.returns-then-number
unfolding same_address
returns-then-number c = search rules

pub returns-else-number : goal.returns-else-number
unfolding same_address
returns-else-number c = search rules
