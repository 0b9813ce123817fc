-- The text of addresses and peers: how each is printed, and which texts parse as one.
use Rattle.std.specs.Prelude.{◌≡◌, ◌≢◌, ℕ, ◌^◌, ◌<◌, List, [], ◌++◌, map, All, codes, decimal, Ok}
use Rattle.std.specs.Int.{w32, w128, to_be_bytes}
use Rattle.std.specs.List.{join_with_byte}
use Rattle.std.specs.Net.Addr.{segments_of}
use Rattle.std.specs.Net.Grammar.{IsColonHex}
use Rattle.std.specs.Net.Text.{hex_groups_text}
use Rattle.hex.specs.Hex.{encode_lower, decode_sized}
use Rattle.net_addr.specs.Address.{Address, length_of}
use Rattle.net_addr.specs.OldForm.{address, from_v1}
use Rattle.net_addr.specs.declared.net.Net.{Net}
use Rattle.net_addr.specs.declared.net.Net.TheVariants.{Unroutable, Ipv4, Ipv6, Onion, I2p, Cjdns, Internal}
use Rattle.net_addr.specs.declared.peer.Peer.{Peer}

-- four decimal numbers with dots between them
abbrev pub ipv4_text : List ℕ → List ℕ
ipv4_text bytes = join_with_byte 46 (map decimal bytes)

-- eight groups, lower case and with no leading zeros, between colons. A run of at least two zero
-- groups is `::`: the longest one, and the first of several that are as long (RFC 5952)
abbrev pub ipv6_text : List ℕ → List ℕ
ipv6_text bytes = hex_groups_text (segments_of bytes)

-- the name of a network, or of a class that no network has
abbrev pub net_name : Net → List ℕ
net_name Unroutable = codes "unroutable"
net_name Ipv4 = codes "ipv4"
net_name Ipv6 = codes "ipv6"
net_name Onion = codes "onion"
net_name I2p = codes "i2p"
net_name Cjdns = codes "cjdns"
net_name Internal = codes "internal"

-- the label before the hexadecimal digits of an address: the network's name and a colon
abbrev pub label_of : Net → List ℕ
label_of net = net_name net ++ codes ":"

-- The text of an address, by its network.
abbrev pub text_by : Net → List ℕ → List ℕ
text_by Ipv4 bytes = ipv4_text bytes
text_by Ipv6 bytes = codes "[" ++ ipv6_text bytes ++ codes "]"
text_by Unroutable bytes = []
text_by other bytes = label_of other ++ encode_lower bytes

-- how an address is printed
abbrev pub addr_text : Address → List ℕ
addr_text a = text_by a.net a.bytes

-- an address, a colon and the port
abbrev pub peer_text : Peer → List ℕ
peer_text p = addr_text p.addr ++ codes ":" ++ decimal p.port

-- the text of an IPv4 address of 32 bits: its four bytes in decimal, no leading zeros, between dots
abbrev pub IsIpv4Text : List ℕ → ℕ → Type 0
IsIpv4Text text bits = (bits < 2 ^ 32) × (text ≡ ipv4_text (to_be_bytes w32 bits))

-- a text that parses as an IPv6 address of 128 bits. Groups of one to four hexadecimal digits, in
-- either case, are separated by colons, and one `::` may replace a zero group or more (forms 1 and
-- 2 of RFC 4291, 2.2). Form 3, whose last two groups are an IPv4 address, is not accepted, so the
-- text has no dot
pub record IsIpv6Text (text : List ℕ) (bits : ℕ) : Type 0 where
  pub small : bits < 2 ^ 128
  pub groups : IsColonHex text (segments_of (to_be_bytes w128 bits))
  pub no_dots : All (λ c. c ≢ 46) text

-- the hexadecimal digits of an address of the network, two a byte and in either case
pub record IsHexOf (net : Net) (digits : List ℕ) (a : Address) : Type 0 where
  pub network : a.net ≡ net
  pub bytes : decode_sized digits (length_of net) ≡ Ok a.bytes

-- the network's label, and the digits
pub record IsHexText (net : Net) (text : List ℕ) (a : Address) : Type 0 where
  pub digits : List ℕ
  pub spelled : text ≡ label_of net ++ digits
  pub hex : IsHexOf net digits a

-- an IPv6 text in square brackets; its bytes are in the old form, so that a mapped IPv4 address is
-- that IPv4 address
pub record IsBracketText (text : List ℕ) (a : Address) : Type 0 where
  pub inner : List ℕ
  pub bits : ℕ
  pub spelled : text ≡ codes "[" ++ inner ++ codes "]"
  pub bits_text : IsIpv6Text inner bits
  pub address : a ≡ from_v1 (to_be_bytes w128 bits)

-- an IPv4 text
pub record IsDottedText (text : List ℕ) (a : Address) : Type 0 where
  pub bits : ℕ
  pub bits_text : IsIpv4Text text bits
  pub address : a ≡ address Ipv4 (to_be_bytes w32 bits)

-- a text that parses as the address
pub data IsAddrText (text : List ℕ) (a : Address) : Type 0 where
  dotted : IsDottedText text a → IsAddrText text a
  bracketed : IsBracketText text a → IsAddrText text a
  onion : IsHexText Onion text a → IsAddrText text a
  i2p : IsHexText I2p text a → IsAddrText text a
  cjdns : IsHexText Cjdns text a → IsAddrText text a
  internal : IsHexText Internal text a → IsAddrText text a

-- a text that parses as the peer: an address, a colon, and a port of 16 bits
pub record IsPeerText (text : List ℕ) (p : Peer) : Type 0 where
  pub addr : List ℕ
  pub addr_text : IsAddrText addr p.addr
  pub port : p.port < 2 ^ 16
  pub spelled : text ≡ addr ++ codes ":" ++ decimal p.port
