-- The old sixteen-byte form of an address, both ways, and the bytes by which a peer is hashed.
use Rattle.std.specs.Prelude.{ℕ, ◌/◌, ◌%◌, List, [], ◌∷◌, ◌++◌, drop, replicate, Option, Some, None, unwrap_or, if◌then◌else◌}
use Rattle.net_addr.specs.Address.{Address, begins_with, mapped_prefix, internal_prefix, torv2_prefix}
use Rattle.net_addr.specs.declared.net.Net.{Net}
use Rattle.net_addr.specs.declared.net.Net.TheVariants.{Ipv4, Ipv6, Internal}
use Rattle.net_addr.specs.declared.peer.Peer.{Peer}

-- The address of a network with these bytes.
abbrev pub address : Net → List ℕ → Address
address net bytes = record { net = net; bytes = bytes }

-- the address of sixteen bytes in messages before BIP 155 (`CNetAddr::SetLegacyIPv6`); a Tor v2
-- address becomes the IPv6 address `::`
abbrev pub from_v1 : List ℕ → Address
from_v1 bytes =
    if begins_with bytes mapped_prefix then address Ipv4 (drop 12 bytes)
    else if begins_with bytes internal_prefix then address Internal (drop 6 bytes)
    else if begins_with bytes torv2_prefix then address Ipv6 (replicate 16 0)
    else address Ipv6 bytes

-- The sixteen bytes of an address of a network, if it has an old form
-- (`CNetAddr::SerializeV1Array`).
abbrev pub v1_by : Net → List ℕ → Option (List ℕ)
v1_by Ipv4 bytes = Some (mapped_prefix ++ bytes)
v1_by Ipv6 bytes = Some bytes
v1_by Internal bytes = Some (internal_prefix ++ bytes)
v1_by other bytes = None

-- the sixteen bytes of the old form, if the address has one (`CNetAddr::SerializeV1Array`)
abbrev pub v1_bytes : Address → Option (List ℕ)
v1_bytes a = v1_by a.net a.bytes

-- a port of 16 bits, the high byte first
abbrev pub port_bytes : ℕ → List ℕ
port_bytes port = port / 256 ∷ port % 256 ∷ []

-- the old form, or else the address's bytes, and the port (`CService::GetKey`)
abbrev pub key_bytes : Peer → List ℕ
key_bytes p = unwrap_or (v1_bytes p.addr) p.addr.bytes ++ port_bytes p.port
