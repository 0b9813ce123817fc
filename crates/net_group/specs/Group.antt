-- The network group of an address (`NetGroupManager::GetGroup` in netgroup.cpp of Bitcoin Core).
use Rattle.std.specs.Prelude.{ℕ, ◌+◌, ◌-◌, ◌*◌, ◌/◌, ◌%◌, ◌^◌, List, [], ◌∷◌, ◌++◌, take, Option, Some, None, option_map, unwrap_or, slice_index, ◌==◌, if◌then◌else◌}
use Rattle.std.specs.Int.{w32, w128, to_le_bytes, from_be_bytes}
use Rattle.net_addr.specs.Address.{Address, mapped_prefix, net_number}
use Rattle.net_addr.specs.Ranges.{Range, range, in_range, linked_ipv4, net_class}
use Rattle.net_addr.specs.declared.net.Net.{Net}
use Rattle.net_addr.specs.declared.net.Net.TheVariants.{Unroutable, Ipv4, Ipv6, Onion, I2p, Cjdns, Internal}

-- the first n bits of a byte, and ones after them
abbrev pub ones_after : ℕ → ℕ → ℕ
ones_after n b = b / 2 ^ (8 - n) * 2 ^ (8 - n) + (2 ^ (8 - n) - 1)

-- the first n bits of the bytes, and ones up to the end of a byte that they fill only in part
abbrev pub prefix_bytes : ℕ → List ℕ → List ℕ
prefix_bytes n bytes =
    take (n / 8) bytes
    ++ (if n % 8 == 0 then [] else ones_after (n % 8) (slice_index bytes (n / 8)) ∷ [])

-- Hurricane Electric's 2001:470::/32, whose users have a longer prefix each
abbrev pub he_net : Range
he_net = range (0x20 ∷ 0x01 ∷ 0x04 ∷ 0x70 ∷ []) 32

-- the part of an address that its class groups by
abbrev pub part_by : Net → Address → List ℕ
part_by Unroutable a = []
part_by Ipv4 a = take 2 (unwrap_or (linked_ipv4 a) [])
part_by Ipv6 a = prefix_bytes (if in_range he_net a.bytes then 36 else 32) a.bytes
part_by Onion a = prefix_bytes 4 a.bytes
part_by I2p a = prefix_bytes 4 a.bytes
part_by Cjdns a = prefix_bytes 12 a.bytes
part_by Internal a = a.bytes

-- the group: for an AS number that is not 0, the number 2 of the network IPv6 and then the AS
-- number with its low byte first; otherwise the class and its part
abbrev pub group_of : Address → ℕ → List ℕ
group_of a asn =
    if asn == 0 then net_number (net_class a) ∷ part_by (net_class a) a else 2 ∷ to_le_bytes w32 asn

-- the 128 bits that are looked up: those of `::ffff:` and the linked IPv4 address, else the sixteen
-- bytes
abbrev pub looked_up : Address → ℕ
looked_up a =
    from_be_bytes w128
    (unwrap_or (option_map (λ ipv4. mapped_prefix ++ ipv4) (linked_ipv4 a)) a.bytes)

-- The 128 bits by which an asmap is searched, by the network of the address: only IPv4 and IPv6
-- addresses are (`NetGroupManager::GetMappedAS`).
abbrev pub asmap_by : Net → Address → Option ℕ
asmap_by Ipv4 a = Some (looked_up a)
asmap_by Ipv6 a = Some (looked_up a)
asmap_by Unroutable a = None
asmap_by Onion a = None
asmap_by I2p a = None
asmap_by Cjdns a = None
asmap_by Internal a = None

-- what of an address is looked up in an asmap, the highest bit first
-- (`NetGroupManager::GetMappedAS`)
abbrev pub asmap_bits : Address → Option ℕ
asmap_bits a = asmap_by (net_class a) a
