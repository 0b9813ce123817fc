-- The networks of `addrv2` (BIP 155), and the addresses that a node keeps of them.
use Rattle.std.specs.Prelude.{ℕ, List, Bool, true, Option, Some, None, ◌==◌, ◌||◌, if◌then◌else◌}
use Rattle.net_addr.specs.Address.{Address, length_of, begins_with, mapped_prefix, torv2_prefix}
use Rattle.net_addr.specs.OldForm.{address, from_v1}
use Rattle.net_addr.specs.declared.net.Net.{Net}
use Rattle.net_addr.specs.declared.net.Net.TheVariants.{Ipv4, Ipv6, Onion, I2p, Cjdns}

-- the network that a number names, if a node knows it (3 was Tor v2)
abbrev pub network_of : ℕ → Option Net
network_of id =
    if id == 1 then Some Ipv4
    else if id == 2 then Some Ipv6
    else if id == 4 then Some Onion
    else if id == 5 then Some I2p
    else if id == 6 then Some Cjdns
    else None

-- whether addresses of the network have this length; those of an unknown network may have any
abbrev pub is_length : Option Net → ℕ → Bool
is_length None len = true
is_length (Some net) len = len == length_of net

-- whether IPv6 bytes are an embedded IPv4 or Tor v2 address, which `addrv2` does not use
abbrev pub is_embedded : List ℕ → Bool
is_embedded bytes = begins_with bytes mapped_prefix || begins_with bytes torv2_prefix

-- the address that the bytes are, and None if the entry is skipped
-- (`CNetAddr::SetNetFromBIP155Network`, `UnserializeV2Stream`)
abbrev pub address_of : Option Net → List ℕ → Option Address
address_of None bytes = None
address_of (Some Ipv6) bytes = if is_embedded bytes then None else Some (from_v1 bytes)
address_of (Some net) bytes = Some (address net bytes)
