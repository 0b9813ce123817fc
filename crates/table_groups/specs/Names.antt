-- How people write the group of an address. IPv6 is written by RFC 5952, base 32 by RFC 4648.
use Rattle.std.specs.Prelude.{ℕ, ◌+◌, ◌*◌, ◌/◌, ◌^◌, ◌==◌, nat_lt, List, [], ◌∷◌, ◌++◌, take, codes, decimal, slice_index, unwrap_or, if◌then◌else◌}
use Rattle.std.specs.Int.{w128, from_be_bytes, to_be_bytes}
use Rattle.hex.specs.Hex.{encode_lower}
use Rattle.net_addr.specs.Address.{Address}
use Rattle.net_addr.specs.Ranges.{in_range, linked_ipv4, net_class}
use Rattle.net_addr.specs.Text.{ipv6_text}
use Rattle.net_addr.specs.declared.net.Net.{Net}
use Rattle.net_addr.specs.declared.net.Net.TheVariants.{Unroutable, Ipv4, Ipv6, Onion, I2p, Cjdns, Internal}
use Rattle.net_group.specs.Group.{he_net}
use Rattle.placing.specs.Places.{Places, asn}

-- the prefix of this length that an address of sixteen bytes is in; there are `size` addresses in
-- it
abbrev pub prefix_text : List ℕ → ℕ → ℕ → List ℕ
prefix_text bytes size length =
    ipv6_text (to_be_bytes w128 (from_be_bytes w128 bytes / size * size))
    ++ (codes "/" ++ decimal length)

-- a digit in base 32 (RFC 4648, in lower case)
abbrev pub letter : ℕ → ℕ
letter digit = if nat_lt digit 26 then 97 + digit else 24 + digit

-- the letters that the text of an address in base 32 can begin with, by the first four bits
abbrev pub letters_text : ℕ → List ℕ
letters_text byte = letter (byte / 16 * 2) ∷ (codes " or " ++ (letter (byte / 16 * 2 + 1) ∷ []))

-- A group of IPv4: its /16.
abbrev pub ipv4_name : List ℕ → List ℕ
ipv4_name bytes =
    decimal (slice_index bytes 0)
    ++ (codes "." ++ (decimal (slice_index bytes 1) ++ codes ".0.0/16"))

-- A group of IPv6: its /32, or its /36 in Hurricane Electric's network.
abbrev pub ipv6_name : Address → List ℕ
ipv6_name a =
    if in_range he_net a.bytes then prefix_text a.bytes (2 ^ 92) 36
    else prefix_text a.bytes (2 ^ 96) 32

-- the name of the group by the class of the address
abbrev pub name_by : Net → Address → List ℕ
name_by Unroutable a = codes "not routable"
name_by Ipv4 a = ipv4_name (unwrap_or (linked_ipv4 a) [])
name_by Ipv6 a = ipv6_name a
name_by Onion a = codes "Tor v3 " ++ letters_text (slice_index a.bytes 0)
name_by I2p a = codes "I2P " ++ letters_text (slice_index a.bytes 0)
name_by Cjdns a = prefix_text a.bytes (2 ^ 116) 12
name_by Internal a = codes "internal " ++ (encode_lower (take 4 a.bytes) ++ codes "..")

-- the same, or the AS that announces it
abbrev pub name_with : Address → ℕ → List ℕ
name_with a number = if number == 0 then name_by (net_class a) a else codes "AS" ++ decimal number

-- the name of the group of an address
unfoldable pub name_of : Places → Address → List ℕ
name_of places a = name_with a (asn places.map a)
