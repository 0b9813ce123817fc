-- The tests of an address, by its first bits. A range is a prefix as in RFC 4632, section 3.1.
use Rattle.std.specs.Prelude.{ℕ, ◌-◌, List, [], ◌∷◌, take, drop, map, Bool, true, false, ◌&&◌, ◌||◌, not, ◌==◌, Option, Some, None, is_some, if◌then◌else◌}
use Rattle.std.specs.Int.{bit_at}
use Rattle.std.specs.List.{flat_map, starts_with, list_any}
use Rattle.net_addr.specs.Address.{Address}
use Rattle.net_addr.specs.declared.net.Net.{Net}
use Rattle.net_addr.specs.declared.net.Net.TheVariants.{Unroutable, Ipv4, Ipv6, Onion, I2p, Cjdns, Internal}

-- the eight bits of a byte, the highest first
abbrev pub byte_bits : ℕ → List ℕ
byte_bits b =
    bit_at b 7 ∷ bit_at b 6 ∷ bit_at b 5 ∷ bit_at b 4
    ∷ bit_at b 3 ∷ bit_at b 2 ∷ bit_at b 1 ∷ bit_at b 0 ∷ []

-- All bits of some bytes, the first byte first and the highest bit of each byte first.
abbrev pub bits_of : List ℕ → List ℕ
bits_of bytes = flat_map byte_bits bytes

-- the addresses whose first bits are those of a base
pub record Range : Type 0 where
  pub base : List ℕ
  pub bits : ℕ

-- The range of the addresses whose first `bits` bits are those of `base`.
abbrev pub range : List ℕ → ℕ → Range
range base bits = record { base = base; bits = bits }

-- the bytes begin with the range's bits
unfoldable pub in_range : Range → List ℕ → Bool
in_range r bytes = starts_with ◌==◌ (bits_of bytes) (take r.bits (bits_of r.base))

-- The bytes are in one of the ranges.
abbrev pub in_some : List Range → List ℕ → Bool
in_some ranges bytes = list_any (λ r. in_range r bytes) ranges

-- an IPv4 range a.b.c.d/n
abbrev pub four : ℕ → ℕ → ℕ → ℕ → ℕ → Range
four a b c d n = range (a ∷ b ∷ c ∷ d ∷ []) n

-- IPv4 values that are no address: 0.0.0.0 and 255.255.255.255 (`CNetAddr::IsValid` in
-- netaddress.cpp)
abbrev pub ipv4_invalid : List Range
ipv4_invalid = four 0 0 0 0 32 ∷ four 255 255 255 255 32 ∷ []

-- IPv6 values that are no address: :: and 2001:db8::/32 (`CNetAddr::IsValid`, RFC 3849)
abbrev pub ipv6_invalid : List Range
ipv6_invalid =
    range (0 ∷ 0 ∷ 0 ∷ 0 ∷ 0 ∷ 0 ∷ 0 ∷ 0 ∷ 0 ∷ 0 ∷ 0 ∷ 0 ∷ 0 ∷ 0 ∷ 0 ∷ 0 ∷ []) 128 ∷
    range (0x20 ∷ 0x01 ∷ 0x0d ∷ 0xb8 ∷ []) 32 ∷ []

-- addresses of this host: 127.0.0.0/8, 0.0.0.0/8 and ::1 (`CNetAddr::IsLocal`)
abbrev pub ipv4_local : List Range
ipv4_local = four 127 0 0 0 8 ∷ four 0 0 0 0 8 ∷ []

-- The IPv6 address of this host, ::1 (`CNetAddr::IsLocal`).
abbrev pub ipv6_local : List Range
ipv6_local = range (0 ∷ 0 ∷ 0 ∷ 0 ∷ 0 ∷ 0 ∷ 0 ∷ 0 ∷ 0 ∷ 0 ∷ 0 ∷ 0 ∷ 0 ∷ 0 ∷ 0 ∷ 1 ∷ []) 128 ∷ []

-- IPv4 ranges that are not routed: RFC 1918, 2544, 3927, 6598, 5737 (`CNetAddr::IsRoutable`)
abbrev pub ipv4_reserved : List Range
ipv4_reserved =
    four 10 0 0 0 8 ∷ four 172 16 0 0 12 ∷ four 192 168 0 0 16 ∷
    four 198 18 0 0 15 ∷ four 169 254 0 0 16 ∷
    four 100 64 0 0 10 ∷ four 192 0 2 0 24 ∷ four 198 51 100 0 24 ∷ four 203 0 113 0 24 ∷ []

-- IPv6 ranges that are not routed: fe80::/64 (RFC 4862), fc00::/7 (RFC 4193), 2001:10::/28 (RFC
-- 4843) and 2001:20::/28 (RFC 7343)
abbrev pub ipv6_reserved : List Range
ipv6_reserved =
    range (0xfe ∷ 0x80 ∷ 0 ∷ 0 ∷ 0 ∷ 0 ∷ 0 ∷ 0 ∷ []) 64 ∷ range (0xfc ∷ []) 7 ∷
    range (0x20 ∷ 0x01 ∷ 0 ∷ 0x10 ∷ []) 28 ∷ range (0x20 ∷ 0x01 ∷ 0 ∷ 0x20 ∷ []) 28 ∷ []

-- addresses of CJDNS begin with fc
abbrev pub cjdns_range : Range
cjdns_range = range (0xfc ∷ []) 8

-- `CNetAddr::IsValid`, by the network of the address.
abbrev pub valid_by : Net → List ℕ → Bool
valid_by Ipv4 bytes = not (in_some ipv4_invalid bytes)
valid_by Ipv6 bytes = not (in_some ipv6_invalid bytes)
valid_by Onion bytes = true
valid_by I2p bytes = true
valid_by Cjdns bytes = in_range cjdns_range bytes
valid_by other bytes = false

-- `CNetAddr::IsValid`
abbrev pub is_valid : Address → Bool
is_valid a = valid_by a.net a.bytes

-- `CNetAddr::IsLocal`, by the network of the address.
abbrev pub local_by : Net → List ℕ → Bool
local_by Ipv4 bytes = in_some ipv4_local bytes
local_by Ipv6 bytes = in_some ipv6_local bytes
local_by other bytes = false

-- `CNetAddr::IsLocal`
abbrev pub is_local : Address → Bool
is_local a = local_by a.net a.bytes

-- The address is in a reserved range, by its network; only IPv4 and IPv6 have such ranges.
abbrev pub reserved_by : Net → List ℕ → Bool
reserved_by Ipv4 bytes = in_some ipv4_reserved bytes
reserved_by Ipv6 bytes = in_some ipv6_reserved bytes
reserved_by other bytes = false

-- `CNetAddr::IsRoutable`
abbrev pub is_routable : Address → Bool
is_routable a = is_valid a && not (is_local a) && not (reserved_by a.net a.bytes)

-- The range of NAT64, 64:ff9b::/96 (RFC 6052).
abbrev pub nat64 : Range
nat64 = range (0 ∷ 0x64 ∷ 0xff ∷ 0x9b ∷ 0 ∷ 0 ∷ 0 ∷ 0 ∷ 0 ∷ 0 ∷ 0 ∷ 0 ∷ []) 96

-- The range of SIIT, ::ffff:0:0:0/96 (RFC 6145).
abbrev pub siit : Range
siit = range (0 ∷ 0 ∷ 0 ∷ 0 ∷ 0 ∷ 0 ∷ 0 ∷ 0 ∷ 0xff ∷ 0xff ∷ 0 ∷ 0 ∷ []) 96

-- The range of 6to4, 2002::/16 (RFC 3964).
abbrev pub six_to_four : Range
six_to_four = range (0x20 ∷ 0x02 ∷ []) 16

-- The range of Teredo, 2001:0::/32 (RFC 4380).
abbrev pub teredo : Range
teredo = range (0x20 ∷ 0x01 ∷ 0 ∷ 0 ∷ []) 32

-- the IPv4 address that an IPv6 address embeds, by its range: the last four bytes, the four bytes
-- after the first two, or the complement of the last four
abbrev pub carried : List ℕ → Option (List ℕ)
carried bytes =
    if in_range nat64 bytes || in_range siit bytes then Some (drop 12 bytes)
    else if in_range six_to_four bytes then Some (take 4 (drop 2 bytes))
    else if in_range teredo bytes then Some (map (λ b. 255 - b) (drop 12 bytes))
    else None

-- The four bytes of the IPv4 address that an address is or embeds, by its network.
abbrev pub linked_by : Net → List ℕ → Option (List ℕ)
linked_by Ipv4 bytes = Some bytes
linked_by Ipv6 bytes = carried bytes
linked_by other bytes = None

-- the four bytes of the IPv4 address that a routable address is or embeds
-- (`CNetAddr::HasLinkedIPv4`, `GetLinkedIPv4`)
abbrev pub linked_ipv4 : Address → Option (List ℕ)
linked_ipv4 a = if is_routable a then linked_by a.net a.bytes else None

-- `CNetAddr::GetNetClass`, by the network of the address: an IPv6 address with a linked IPv4
-- address counts as IPv4.
abbrev pub class_by : Net → Address → Net
class_by Internal a = Internal
class_by Unroutable a = Unroutable
class_by Ipv6 a =
    if is_routable a then (if is_some (linked_ipv4 a) then Ipv4 else Ipv6) else Unroutable
class_by other a = if is_routable a then other else Unroutable

-- the network that an address is reached through (`CNetAddr::GetNetClass`)
abbrev pub net_class : Address → Net
net_class a = class_by a.net a
