use Rattle.std.proofs.Common.{Some, ap, arith}
use Rattle.net_addr.proofs.Texts.{spelled-bits, bits-of_spelled, spelled-by_bits, octets_of_bits}
use Rattle.net_addr.proofs.read.parse_ipv4.Goals as goal

pub returns-in-Ok-clause-found : goal.returns-in-Ok-clause-found
returns-in-Ok-clause-found c = (omega arith, spelled-bits _ _ _ c.in-Ok.ensures c.to_bits.ensures)

pub returns-in-Ok-clause-only : goal.returns-in-Ok-clause-only
returns-in-Ok-clause-only c = λ n h. ap Some (bits-of_spelled _ _ _ n c.in-Ok.ensures c.to_bits.ensures h)

pub returns-in-Err-clause-only : goal.returns-in-Err-clause-only
returns-in-Err-clause-only c = λ n h. absurd (c.in-Err.ensures (octets_of_bits n) (spelled-by_bits _ n h))
