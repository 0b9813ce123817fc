-- What the structs of the header mean.
use Rattle.std.specs.Int.{bit_at}
use Rattle.std.specs.Prelude.{◌≡◌, ◌≤◌, ◌<◌, ◌⊎◌, ◌++◌, ℕ, List, take, drop, length, Bool, true, false, ◌&&◌, ◌==◌, not, nat_le, Option, Some, None, option_map, if◌then◌else◌}
use Rattle.net_addr.specs.Address.{Address, length_of, net_number, is_old_form}
use Rattle.net_addr.specs.NetSet.{with_net}
use Rattle.net_addr.specs.OldForm.{address}
use Rattle.net_addr.specs.declared.net.Net.{Net}
use Rattle.net_addr.specs.declared.net.Net.TheVariants.{Unroutable, Ipv4, Ipv6, Onion, I2p, Cjdns, Internal}
use Rattle.net_addr.specs.declared.peer.Peer.{Peer}
use Rattle.c_values.specs.declared.values.AddrmanAddr.{AddrmanAddr}
use Rattle.c_values.specs.declared.values.AddrmanPeer.{AddrmanPeer}

-- the network of a number, if addresses have it
abbrev pub network_of : ℕ → Option Net
network_of number =
    if number == 1 then Some Ipv4
    else if number == 2 then Some Ipv6
    else if number == 3 then Some Onion
    else if number == 4 then Some I2p
    else if number == 5 then Some Cjdns
    else if number == 6 then Some Internal
    else None

-- the network of a number, `Unroutable` among them
abbrev pub class_of : ℕ → Option Net
class_of number = if number == 0 then Some Unroutable else network_of number

-- whether the bytes are an address of the network: as many as it has, and no IPv6 value that is the
-- old form of something else
abbrev pub is_address : Net → List ℕ → Bool
is_address Unroutable bytes = false
is_address Ipv6 bytes = length bytes == 16 && not (is_old_form bytes)
is_address net bytes = length bytes == length_of net

-- the address of the network with these bytes, if they are one
abbrev pub address_by : Option Net → List ℕ → Option Address
address_by None bytes = None
address_by (Some net) bytes = if is_address net bytes then Some (address net bytes) else None

-- the address, if these bytes are one
abbrev pub address_in : AddrmanAddr → Option Address
address_in addr =
    if nat_le addr.length 32
    then address_by (network_of addr.network) (take addr.length addr.bytes)
    else None

-- the peer, if its address is one
abbrev pub peer_in : AddrmanPeer → Option Peer
peer_in peer = option_map (λ addr. record { addr = addr; port = peer.port }) (address_in peer.addr)

-- An output is written whole, or is as it was if it has less room than there are bytes. Its length
-- is written either way.
abbrev pub IsPut : List ℕ → List ℕ → ℕ → ℕ → List ℕ → Type 0
IsPut bytes old code count new =
    (count ≡ length bytes)
    × (((length bytes ≤ length old) × (code ≡ 0) × (new ≡ bytes ++ drop (length bytes) old))
    ⊎ ((length old < length bytes) × (code ≡ 6) × (new ≡ old)))

-- the set with one more network, if its bit is set
abbrev pub with_bit : ℕ → List ℕ → Net → List ℕ
with_bit bits nets net = if bit_at bits (net_number net) == 1 then with_net nets net else nets

-- 1 for true and 0 for false
abbrev pub bit : Bool → ℕ
bit true = 1
bit false = 0
