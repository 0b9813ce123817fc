use Rattle.std.proofs.Common.{Some, ap, arith}
use Rattle.net_addr.proofs.Texts.{groups_of_bits, ipv6-found, ipv6-only}
use Rattle.net_addr.proofs.read.parse_ipv6.Goals as goal

pub returns-in-Ok-clause-found : goal.returns-in-Ok-clause-found
returns-in-Ok-clause-found c = ipv6-found _ _ _ _ c.in-Ok.ensures c.if-has_dot.ensures c.octets.ensures c.bits_of.ensures.bytes (omega arith)

pub returns-in-Ok-clause-only : goal.returns-in-Ok-clause-only
returns-in-Ok-clause-only c = λ n h. ap Some (ipv6-only _ _ _ _ n c.in-Ok.ensures c.octets.ensures c.bits_of.ensures.value h)

pub returns-in-Err-clause-only : goal.returns-in-Err-clause-only
returns-in-Err-clause-only c = λ n h. absurd (c.in-Err.ensures (groups_of_bits n) h.groups)
