-- How an address is stored, and which networks have a label.
use Rattle.std.specs.Prelude.{◌≡◌, List, ℕ, refl}
use Rattle.net_addr.specs.Address.{Address}
use Rattle.net_addr.specs.declared.address.Bytes.{Bytes}
use Rattle.net_addr.specs.declared.address.Bytes.TheVariants as B
use Rattle.net_addr.specs.declared.net.Net.{Net}
use Rattle.net_addr.specs.declared.net.Net.TheVariants.{Unroutable, Ipv4, Ipv6, Onion, I2p, Cjdns, Internal}

-- The address of a network with these bytes.
abbrev address : Net → List ℕ → Address
address net bytes = record { net = net; bytes = bytes }

-- the address that has these bytes
abbrev pub address_of : Bytes → Address
address_of (B.Ipv4 bytes) = address Ipv4 bytes
address_of (B.Ipv6 bytes) = address Ipv6 bytes
address_of (B.Onion bytes) = address Onion bytes
address_of (B.I2p bytes) = address I2p bytes
address_of (B.Cjdns bytes) = address Cjdns bytes
address_of (B.Internal bytes) = address Internal bytes

-- The bytes of an address as its network stores them; an unroutable address is stored as an
-- internal one.
abbrev pub bytes_by : Net → List ℕ → Bytes
bytes_by Unroutable bytes = B.Internal bytes
bytes_by Ipv4 bytes = B.Ipv4 bytes
bytes_by Ipv6 bytes = B.Ipv6 bytes
bytes_by Onion bytes = B.Onion bytes
bytes_by I2p bytes = B.I2p bytes
bytes_by Cjdns bytes = B.Cjdns bytes
bytes_by Internal bytes = B.Internal bytes

-- how an address is stored
abbrev pub bytes_of : Address → Bytes
bytes_of a = bytes_by a.net a.bytes

-- the network's addresses are printed as a label and hexadecimal digits
abbrev pub HasLabel : Net → Type 0
HasLabel Onion = Unit {0}
HasLabel I2p = Unit {0}
HasLabel Cjdns = Unit {0}
HasLabel Internal = Unit {0}
HasLabel other = ⊥

-- Stored bytes are those of the address that they stand for.
pub bytes_of-address_of : (b : Bytes) → bytes_of (address_of b) ≡ b
bytes_of-address_of (B.Ipv4 bytes) = refl
bytes_of-address_of (B.Ipv6 bytes) = refl
bytes_of-address_of (B.Onion bytes) = refl
bytes_of-address_of (B.I2p bytes) = refl
bytes_of-address_of (B.Cjdns bytes) = refl
bytes_of-address_of (B.Internal bytes) = refl
