-- Addresses as people write them (`CNetAddr::ToStringAddr` and `SetSpecial` in netaddress.cpp of
-- Bitcoin Core): how each is printed, and which texts parse as one.
use Rattle.std.specs.Prelude.{◌≡◌, ◌≢◌, ℕ, List, [], ◌∷◌, ◌++◌, map, codes, take, ◌==◌, Bool, false, slice_index, if◌then◌else◌, ⊤}
use Rattle.std.specs.Char.{to_ascii_lowercase}
use Rattle.std.specs.Int.{w128, to_be_bytes}
use Rattle.net_addr.specs.Address.{Address, IsAddress}
use Rattle.net_addr.specs.OldForm.{address, from_v1}
use Rattle.net_addr.specs.Text.{ipv4_text, ipv6_text, IsIpv6Text, IsDottedText}
use Rattle.net_addr.specs.declared.net.Net.{Net}
use Rattle.net_addr.specs.declared.net.Net.TheVariants.{Unroutable, Ipv4, Ipv6, Onion, I2p, Cjdns, Internal}
use Rattle.names.specs.Keccak.{sha3_256}
use Rattle.names.specs.Base32.{base32}

-- the first two bytes of a hash of a public key and the version, which is 3 (rend-spec-v3, section
-- 6, "Encoding onion addresses")
abbrev pub checksum : List ℕ → List ℕ
checksum key = take 2 (sha3_256 (codes ".onion checksum" ++ key ++ 3 ∷ []))

-- the bytes that the letters of a name encode: a key of Tor v3 has its checksum and the version
-- after it
unfoldable pub encoded : Net → List ℕ → List ℕ
encoded Onion key = key ++ checksum key ++ 3 ∷ []
encoded other bytes = bytes

-- the letters of a name
abbrev pub letters_of : Net → List ℕ → List ℕ
letters_of net bytes = base32 (encoded net bytes)

-- what comes after the letters of a name
abbrev pub suffix_of : Net → List ℕ
suffix_of Onion = codes ".onion"
suffix_of I2p = codes ".b32.i2p"
suffix_of Internal = codes ".internal"
suffix_of other = []

-- An address as people write it, by its network.
abbrev pub name_by : Net → List ℕ → List ℕ
name_by Unroutable bytes = []
name_by Ipv4 bytes = ipv4_text bytes
name_by Ipv6 bytes = ipv6_text bytes
name_by Cjdns bytes = ipv6_text bytes
name_by other bytes = letters_of other bytes ++ suffix_of other

-- how an address is printed
abbrev pub name_text : Address → List ℕ
name_text a = name_by a.net a.bytes

-- An IPv6 address of fc00::/8 is one of CJDNS (`MaybeFlipIPv6toCJDNS` in netbase.cpp, in a node
-- that reaches CJDNS).
abbrev pub is_cjdns : Net → List ℕ → Bool
is_cjdns Ipv6 bytes = slice_index bytes 0 == 0xfc
is_cjdns other bytes = false

-- The address as a node that reaches CJDNS takes it: one of fc00::/8 belongs to CJDNS
-- (`MaybeFlipIPv6toCJDNS`).
abbrev pub flipped : Address → Address
flipped a = if is_cjdns a.net a.bytes then address Cjdns a.bytes else a

-- an IPv6 text: its bytes are in the old form, so that a mapped IPv4 address is that IPv4 address
pub record IsColonText (text : List ℕ) (a : Address) : Type 0 where
  pub bits : ℕ
  pub bits_text : IsIpv6Text text bits
  pub address : a ≡ flipped (from_v1 (to_be_bytes w128 bits))

-- the networks whose names are letters and a suffix
abbrev pub IsLettered : Net → Type 0
IsLettered Onion = Unit {0}
IsLettered I2p = Unit {0}
IsLettered Internal = Unit {0}
IsLettered other = ⊥

-- the suffix of a network's names; that of I2P in either case
abbrev pub IsSuffix : Net → List ℕ → Type 0
IsSuffix I2p end = map to_ascii_lowercase end ≡ suffix_of I2p
IsSuffix other end = end ≡ suffix_of other

-- letters of base 32 that are those of an address of the network
pub record HasLetters (net : Net) (letters : List ℕ) (a : Address) : Type 0 where
  pub network : a.net ≡ net
  pub own : IsAddress a
  pub encodes : letters ≡ letters_of net a.bytes

-- letters in either case, and the suffix
pub record IsLetterText (net : Net) (text : List ℕ) (a : Address) : Type 0 where
  pub stem : List ℕ
  pub end : List ℕ
  pub spelled : text ≡ stem ++ end
  pub suffix : IsSuffix net end
  pub stem_letters : HasLetters net (map to_ascii_lowercase stem) a

-- a text that parses as the address
pub data IsName (text : List ℕ) (a : Address) : Type 0 where
  dotted : IsDottedText text a → IsName text a
  colons : IsColonText text a → IsName text a
  lettered : (net : Net) → IsLettered net → IsLetterText net text a → IsName text a

-- The bytes are of the network that their text is read as: those of IPv6 are not in fc00::/8, and
-- those of CJDNS are.
abbrev pub own_by : Net → List ℕ → Type 0
own_by Ipv6 bytes = slice_index bytes 0 ≢ 0xfc
own_by Cjdns bytes = slice_index bytes 0 ≡ 0xfc
own_by other bytes = ⊤

-- The name of the address is that of no other: all but IPv6 addresses of fc00::/8, whose text is
-- that of an address of CJDNS, and addresses of CJDNS outside of it.
abbrev pub HasOwnName : Address → Type 0
HasOwnName a = own_by a.net a.bytes
