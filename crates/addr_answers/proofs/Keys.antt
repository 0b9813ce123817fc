-- Each network class and local socket has a key of its own.
use Rattle.std.proofs.Common.{◌≡◌, ℕ, ◌*◌, ◌+◌, ◌<◌, arith}
use Rattle.net_addr.specs.Address.{net_number}
use Rattle.net_addr.specs.Same.{number_of_injective}
use Rattle.net_addr.specs.declared.net.Net.{Net}
use Rattle.net_addr.specs.declared.net.Net.TheVariants.{Unroutable, Ipv4, Ipv6, Onion, I2p, Cjdns, Internal}
use Rattle.addr_answers.specs.Answers.{key_of}

below_8 : (net : Net) → net_number net < 8
below_8 Unroutable = omega arith
below_8 Ipv4 = omega arith
below_8 Ipv6 = omega arith
below_8 Onion = omega arith
below_8 I2p = omega arith
below_8 Cjdns = omega arith
below_8 Internal = omega arith

same_parts : (a b s t : ℕ) → a < 8 → b < 8 → s * 8 + a ≡ t * 8 + b → (a ≡ b) × (s ≡ t)
same_parts a b s t below other is = (omega (arith, below, other, is), omega (arith, below, other, is))

pub distinct : (net other : Net) (socket another : ℕ) → key_of net socket ≡ key_of other another → (net ≡ other) × (socket ≡ another)
distinct net other socket another is =
    let parts = same_parts (net_number net) (net_number other) socket another (below_8 net) (below_8 other) is in
    (number_of_injective net other parts.0, parts.1)
