-- The rules of Bitcoin Core since 26 that an opener follows besides its own, if an option asks for
-- them (`CConnman::ThreadOpenConnections` in net.cpp, `MayHaveUsefulAddressDB` in protocol.h and
-- `IsBadPort` in netbase.cpp, from memory). Tries are numbered from 1.
use Rattle.std.specs.Prelude.{ℕ, ◌+◌, List, [], ◌∷◌, Bool, true, false, ◌&&◌, ◌==◌, not, nat_lt, bit_and, if◌then◌else◌}
use Rattle.std.specs.List.{list_any}
use Rattle.net_addr.specs.Address.{Address, net_number}
use Rattle.net_addr.specs.NetSet.{has, none}
use Rattle.net_addr.specs.declared.net.Net.{Net}
use Rattle.net_addr.specs.declared.net.Net.TheVariants.{Ipv4, Ipv6}
use Rattle.net_addr.specs.declared.peer.Peer.{Peer}
use Rattle.peer_open.specs.declared.rules.OpenRules.{OpenRules}

-- the rules without options
abbrev pub no_rules : OpenRules
no_rules = record { exempt = none; services = 0; skips_bad_ports = false }

-- an address as a group of its own: the first byte is above those of all network groups
abbrev pub own_group : Address → List ℕ
own_group addr = (128 + net_number addr.net) ∷ addr.bytes

-- the group that a peer of this address and network group counts in
abbrev pub counted_group : OpenRules → Address → List ℕ → List ℕ
counted_group rules addr group = if has rules.exempt addr.net then own_group addr else group

-- an outbound peer that is kept has all services that are needed
abbrev pub lacks_services : OpenRules → ℕ → Bool
lacks_services rules services = not (bit_and services rules.services == rules.services)

-- one that is tested may have useful addresses: it has NODE_NETWORK (1) or NODE_NETWORK_LIMITED
-- (1024)
abbrev pub lacks_useful_services : OpenRules → ℕ → Bool
lacks_useful_services rules services =
    not (rules.services == 0) && bit_and services 1025 == 0

-- The network is IPv4 or IPv6.
abbrev pub is_ip : Net → Bool
is_ip Ipv4 = true
is_ip Ipv6 = true
is_ip other = false

-- the ports of other services
abbrev pub bad_ports : List ℕ
bad_ports =
    1 ∷ 7 ∷ 9 ∷ 11 ∷ 13 ∷ 15 ∷ 17 ∷ 19 ∷ 20 ∷ 21 ∷ 22 ∷ 23 ∷ 25 ∷ 37 ∷ 42 ∷ 43 ∷ 53 ∷ 69 ∷ 77 ∷
    79 ∷ 87 ∷ 95 ∷ 101 ∷ 102 ∷ 103 ∷ 104 ∷ 109 ∷ 110 ∷ 111 ∷ 113 ∷ 115 ∷ 117 ∷ 119 ∷ 123 ∷ 135 ∷
    137 ∷ 139 ∷ 143 ∷ 161 ∷ 179 ∷ 389 ∷ 427 ∷ 465 ∷ 512 ∷ 513 ∷ 514 ∷ 515 ∷ 526 ∷ 530 ∷ 531 ∷
    532 ∷ 540 ∷ 548 ∷ 554 ∷ 556 ∷ 563 ∷ 587 ∷ 601 ∷ 636 ∷ 989 ∷ 990 ∷ 993 ∷ 995 ∷ 1719 ∷ 1720 ∷
    1723 ∷ 2049 ∷ 3306 ∷ 3389 ∷ 3659 ∷ 4045 ∷ 5060 ∷ 5061 ∷ 5432 ∷ 5900 ∷ 6000 ∷ 6566 ∷ 6665 ∷
    6666 ∷ 6667 ∷ 6668 ∷ 6669 ∷ 6697 ∷ 10080 ∷ 27017 ∷ []

-- The port is one of another service (`IsBadPort`).
abbrev pub is_bad_port : ℕ → Bool
is_bad_port port = list_any (λ bad. bad == port) bad_ports

-- an IPv4 or IPv6 peer with the port of another service is passed over before the 50th try
abbrev pub has_bad_port : OpenRules → Peer → ℕ → Bool
has_bad_port rules peer tries =
    rules.skips_bad_ports && nat_lt tries 50 && is_ip peer.addr.net && is_bad_port peer.port
