-- The layout of the messages `addr` and `addrv2` (BIP 155), field by field, and the fault that each
-- field may show. An entry is `CAddress` in protocol.h of Bitcoin Core.
use Rattle.std.specs.Prelude.{ℕ, List, Option, Some, option_map, nat_le}
use Rattle.std.specs.Int.{w16, w32, w64}
use Rattle.net_addr.specs.Address.{Address}
use Rattle.net_addr.specs.OldForm.{from_v1}
use Rattle.net_addr.specs.declared.peer.Entry.{Entry}
use Rattle.net_addr.specs.declared.net.Net.{Net}
use Rattle.wire_num.specs.declared.fault.WireFault.{WireFault}
use Rattle.wire_num.specs.Format.{Format, ◌>>=◌, value, check, times, map_fault, HasFault}
use Rattle.wire_num.specs.Fields.{some_bytes, byte, le, be, compact}
use Rattle.addr_codecs.specs.Faults.{of_wire, in_address, of_address}
use Rattle.addr_codecs.specs.Network.{network_of, is_length, address_of}
use Rattle.addr_codecs.specs.declared.form.Form.{Form}
use Rattle.addr_codecs.specs.declared.form.Form.TheVariants.{Addr, Addrv2}
use Rattle.addr_codecs.specs.declared.fault.MsgFault.{MsgFault}
use Rattle.addr_codecs.specs.declared.fault.MsgFault.TheVariants.{TooMany, Trailing}
use Rattle.addr_codecs.specs.declared.message.TheConstants.{MAX_ENTRIES}
use Rattle.addr_codecs.specs.declared.address_fault.AddressFault.{AddressFault}
use Rattle.addr_codecs.specs.declared.address_fault.AddressFault.TheVariants.{BadLength, TooLong}

-- A format of wire_num as a field of a message: its faults are those of a message.
abbrev pub field : {A : Type 0} → Format WireFault A → Format MsgFault A
field p = map_fault of_wire p

-- The entry with this time, these services, and the peer of this port and address.
abbrev pub entry : ℕ → ℕ → ℕ → Address → Entry
entry time services port addr =
    record { time = time; services = services; peer = record { addr = addr; port = port } }

-- an entry of `addr`, which is never skipped
unfoldable pub addr_entry : Format MsgFault (Option Entry)
addr_entry = do
  time ← field (le w32)
  services ← field (le w64)
  old ← field (some_bytes 16)
  port ← field (be w16)
  value (Some (entry time services port (from_v1 old)))

-- a field of an address
abbrev pub address_field : {A : Type 0} → Format WireFault A → Format AddressFault A
address_field p = map_fault in_address p

-- the length of an address, at most 512 and that of its network
unfoldable pub address_length : Option Net → Format AddressFault ℕ
address_length network = do
  len ← address_field compact
  short ← check (nat_le len 512) TooLong len
  check (is_length network short) BadLength short

-- the network, the length and the bytes of an address; None if a node has no such address
unfoldable pub addrv2_address : Format AddressFault (Option Address)
addrv2_address = do
  id ← address_field byte
  len ← address_length (network_of id)
  bytes ← address_field (some_bytes len)
  value (address_of (network_of id) bytes)

-- an entry of `addrv2`, None if it is skipped
unfoldable pub addrv2_entry : Format MsgFault (Option Entry)
addrv2_entry = do
  time ← field (le w32)
  services ← field compact
  addr ← map_fault of_address addrv2_address
  port ← field (be w16)
  value (option_map (entry time services port) addr)

-- the number of entries, at most MAX_ENTRIES, and this many entries
unfoldable pub message : Format MsgFault (Option Entry) → Format MsgFault (List (Option Entry))
message p = do
  n ← field compact
  count ← check (nat_le n MAX_ENTRIES) TooMany n
  times 0 count (λ _. p)

-- The bytes are the payload of an `addr` message with these entries.
abbrev pub IsAddrMessage : List ℕ → List (Option Entry) → Type 0
IsAddrMessage bytes es = (message addr_entry).spells bytes es

-- The bytes are the payload of an `addrv2` message (BIP 155) with these entries.
abbrev pub IsAddrv2Message : List ℕ → List (Option Entry) → Type 0
IsAddrv2Message bytes es = (message addrv2_entry).spells bytes es

-- The first fault of bytes that should be an `addr` message.
abbrev pub HasAddrFault : List ℕ → MsgFault → Type 0
HasAddrFault bytes f = HasFault (message addr_entry) Trailing bytes f

-- The first fault of bytes that should be an `addrv2` message.
abbrev pub HasAddrv2Fault : List ℕ → MsgFault → Type 0
HasAddrv2Fault bytes f = HasFault (message addrv2_entry) Trailing bytes f

-- the bytes are a message of the form with these entries
abbrev pub IsMessage : Form → List ℕ → List (Option Entry) → Type 0
IsMessage Addr bytes es = IsAddrMessage bytes es
IsMessage Addrv2 bytes es = IsAddrv2Message bytes es

-- the first fault of bytes that are to be a message of the form
abbrev pub HasMessageFault : Form → List ℕ → MsgFault → Type 0
HasMessageFault Addr bytes f = HasAddrFault bytes f
HasMessageFault Addrv2 bytes f = HasAddrv2Fault bytes f
