-- What an address, a peer and an entry of a message are.
use Rattle.std.specs.Prelude.{◌≡◌, ◌≢◌, ℕ, ◌<◌, List, [], ◌∷◌, length, All, Bool, false, ◌||◌, ◌==◌}
use Rattle.std.specs.List.{starts_with}
use Rattle.net_addr.specs.declared.net.Net.{Net}
use Rattle.net_addr.specs.declared.net.Net.TheVariants.{Unroutable, Ipv4, Ipv6, Onion, I2p, Cjdns, Internal}

-- a network, and the address's bytes in the order of the wire (BIP 155)
pub record Address : Type 0 where
  pub net : Net
  pub bytes : List ℕ

-- how many bytes an address of the network has (BIP 155; an internal name has ten,
-- `CNetAddr::SetInternal` in netaddress.cpp)
abbrev pub length_of : Net → ℕ
length_of Unroutable = 0
length_of Ipv4 = 4
length_of Ipv6 = 16
length_of Onion = 32
length_of I2p = 32
length_of Cjdns = 16
length_of Internal = 10

-- the number of a network, in the order of the variants (`enum Network` in netaddress.h)
abbrev pub net_number : Net → ℕ
net_number Unroutable = 0
net_number Ipv4 = 1
net_number Ipv6 = 2
net_number Onion = 3
net_number I2p = 4
net_number Cjdns = 5
net_number Internal = 6

-- the prefix of an IPv4 address in the old sixteen-byte form (`IPV4_IN_IPV6_PREFIX`)
abbrev pub mapped_prefix : List ℕ
mapped_prefix = 0 ∷ 0 ∷ 0 ∷ 0 ∷ 0 ∷ 0 ∷ 0 ∷ 0 ∷ 0 ∷ 0 ∷ 0xff ∷ 0xff ∷ []

-- the prefix of an internal name there (`INTERNAL_IN_IPV6_PREFIX`)
abbrev pub internal_prefix : List ℕ
internal_prefix = 0xfd ∷ 0x6b ∷ 0x88 ∷ 0xc0 ∷ 0x87 ∷ 0x24 ∷ []

-- the prefix of a Tor v2 address there (`TORV2_IN_IPV6_PREFIX`)
abbrev pub torv2_prefix : List ℕ
torv2_prefix = 0xfd ∷ 0x87 ∷ 0xd8 ∷ 0x7e ∷ 0xeb ∷ 0x43 ∷ []

-- The bytes begin with a prefix.
abbrev pub begins_with : List ℕ → List ℕ → Bool
begins_with bytes prefix = starts_with ◌==◌ bytes prefix

-- sixteen bytes that are the old form of something other than an IPv6 address
abbrev pub is_old_form : List ℕ → Bool
is_old_form bytes =
    begins_with bytes mapped_prefix || begins_with bytes internal_prefix
    || begins_with bytes torv2_prefix

-- an address of one of the six networks: as many bytes as the network has, each below 256, and no
-- IPv6 value that is the old form of something else
pub record IsAddress (a : Address) : Type 0 where
  pub network : a.net ≢ Unroutable
  pub length : length a.bytes ≡ length_of a.net
  pub bytes : All (λ b. b < 256) a.bytes
  pub own_form : a.net ≡ Ipv6 → is_old_form a.bytes ≡ false
