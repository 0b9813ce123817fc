-- How the messages `addr` and `addrv2` are written: each number and each length in its shortest
-- encoding.
use Rattle.std.specs.Prelude.{ℕ, List, [], ◌∷◌, ◌++◌, length, unwrap_or}
use Rattle.std.specs.List.{flat_map}
use Rattle.std.specs.Int.{w16, w32, w64, to_le_bytes, to_be_bytes}
use Rattle.net_addr.specs.Address.{Address, internal_prefix}
use Rattle.net_addr.specs.OldForm.{v1_bytes}
use Rattle.net_addr.specs.declared.peer.Entry.{Entry}
use Rattle.net_addr.specs.declared.net.Net.{Net}
use Rattle.net_addr.specs.declared.net.Net.TheVariants.{Unroutable, Ipv4, Ipv6, Onion, I2p, Cjdns, Internal}
use Rattle.wire_num.specs.CompactSize.{compact_size}

-- an entry of `addr`
unfoldable pub addr_entry_text : Entry → List ℕ
addr_entry_text e =
    to_le_bytes w32 e.time ++ to_le_bytes w64 e.services ++ unwrap_or (v1_bytes e.peer.addr) []
    ++ to_be_bytes w16 e.peer.port

-- the number of a network in BIP 155; an internal name has none, and is written as IPv6
-- (`CNetAddr::SerializeV2Stream`)
abbrev pub id_of : Net → ℕ
id_of Unroutable = 0
id_of Ipv4 = 1
id_of Ipv6 = 2
id_of Onion = 4
id_of I2p = 5
id_of Cjdns = 6
id_of Internal = 2

-- what is written before the bytes of an address: an internal name is written as IPv6, with a
-- prefix of its own, as before BIP 155
abbrev pub prefix_of : Net → List ℕ
prefix_of Internal = internal_prefix
prefix_of Unroutable = []
prefix_of Ipv4 = []
prefix_of Ipv6 = []
prefix_of Onion = []
prefix_of I2p = []
prefix_of Cjdns = []

-- the network, the length and the bytes of an address
unfoldable pub address_text : Address → List ℕ
address_text a =
    (id_of a.net ∷ []) ++ compact_size (length (prefix_of a.net ++ a.bytes)) ++ prefix_of a.net
    ++ a.bytes

-- an entry of `addrv2`
unfoldable pub addrv2_entry_text : Entry → List ℕ
addrv2_entry_text e =
    to_le_bytes w32 e.time ++ compact_size e.services ++ address_text e.peer.addr
    ++ to_be_bytes w16 e.peer.port

-- the number of entries, and the entries one after another
abbrev pub message_text : (Entry → List ℕ) → List Entry → List ℕ
message_text entry_text es = compact_size (length es) ++ flat_map entry_text es
