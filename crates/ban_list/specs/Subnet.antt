-- Subnets, and the addresses that they cover.
use Rattle.std.specs.Prelude.{◌≡◌, ◌≢◌, ◌==◌, ℕ, ◌-◌, ◌*◌, ◌/◌, ◌^◌, ◌≤◌, Bool, ◌&&◌, List, [], ◌∷◌, ⊤}
use Rattle.net_addr.specs.Address.{Address, length_of, net_number}
use Rattle.net_addr.specs.Ranges.{range, in_range}
use Rattle.net_addr.specs.declared.net.Net.{Net}
use Rattle.net_addr.specs.declared.net.Net.TheVariants.{Ipv4, Ipv6, Onion, I2p, Cjdns, Internal}
use Rattle.ban_list.specs.declared.subnet.Subnet.{Subnet}

-- how many bits an address of the network has
abbrev pub width : Net → ℕ
width net = 8 * length_of net

-- the networks whose subnets have a length of their own
abbrev pub IsMasked : Net → Type 0
IsMasked Ipv4 = ⊤
IsMasked Ipv6 = ⊤
IsMasked other = ⊥

-- the networks whose addresses are banned whole
abbrev pub IsWhole : Net → Type 0
IsWhole Onion = ⊤
IsWhole I2p = ⊤
IsWhole Cjdns = ⊤
IsWhole other = ⊥

-- the first `len` bits of a byte, high bit first, and zeros
abbrev pub kept : ℕ → ℕ → ℕ
kept len byte = byte / 2 ^ (8 - len) * 2 ^ (8 - len)

-- the first `len` bits of the bytes, and zeros
unfoldable pub clear : ℕ → List ℕ → List ℕ
clear len [] = []
clear len (byte ∷ bytes) = kept len byte ∷ clear (len - 8) bytes

-- a subnet that can be banned: not one of internal names, no longer than an address, no bit set
-- after its length, and the whole address in a network without lengths
pub record IsProper (s : Subnet) : Type 0 where
  pub network : s.addr.net ≢ Internal
  pub len : s.len ≤ width s.addr.net
  pub whole : IsWhole s.addr.net → s.len ≡ width s.addr.net
  pub clear : clear s.len s.addr.bytes ≡ s.addr.bytes

-- the address is of the same network and begins with the subnet's bits (`CSubNet::Match` in
-- netaddress.cpp)
abbrev pub covers : Subnet → Address → Bool
covers s a =
    (net_number s.addr.net == net_number a.net) && in_range (range s.addr.bytes s.len) a.bytes
