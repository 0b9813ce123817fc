use Rattle.std.proofs.Common.{◌≡◌, Some, ap, arith}
use Rattle.net_addr.proofs.Texts.{peer_parts}
use Rattle.net_addr.proofs.read.parse_peer.Goals as goal

pub returns-in_err-addr-2-clause-only : goal.returns-in_err-addr-2-clause-only
returns-in_err-addr-2-clause-only c = λ p spelled.
    let parts = peer_parts _ _ _ p c.in_ok-addr.ensures.cut c.in_ok-addr.ensures.last spelled in
    let found = c.in_err-addr-2.ensures.only p.addr parts.0 in
    cc

pub returns-in_err-port-clause-only : goal.returns-in_err-port-clause-only
returns-in_err-port-clause-only c = λ p spelled.
    let parts = peer_parts _ _ _ p c.in_ok-addr.ensures.cut c.in_ok-addr.ensures.last spelled in
    let found = c.in_err-port.ensures.only p.port (omega (arith, spelled.port)) parts.1 in
    cc

pub returns-clause-only : goal.returns-clause-only
returns-clause-only c = λ p spelled.
    let parts = peer_parts _ _ _ p c.in_ok-addr.ensures.cut c.in_ok-addr.ensures.last spelled in
    let found_addr = c.in_ok-addr-2.ensures.only p.addr parts.0 in
    let found_port = c.in_ok-port.ensures.only p.port (omega (arith, spelled.port)) parts.1 in
    let addr : c.in_ok-addr-2.addr ≡ p.addr = cc in
    let port : c.in_ok-port.port ≡ p.port = cc in
    ap Some (λ i. record { addr = addr i; port = port i })
