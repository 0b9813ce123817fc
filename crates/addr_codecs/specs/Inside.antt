-- What reading a message from the start gives, field by field, and what each form writes.
use Rattle.std.specs.Prelude.{◌≡◌, ◌≢◌, ◌⊎◌, ℕ, List, Option, Some, Result, Ok, Err, option_map, nat_le, if◌then◌else◌}
use Rattle.std.specs.Int.{w16, w32, w64}
use Rattle.net_addr.specs.OldForm.{from_v1}
use Rattle.net_addr.specs.declared.peer.Entry.{Entry}
use Rattle.net_addr.specs.declared.net.Net.TheVariants.{Ipv4, Ipv6}
use Rattle.wire_num.specs.Readings.{◌>>=◌, fault_as, bytes_at, le_at, be_at, compact_at, times_at}
use Rattle.addr_codecs.specs.Faults.{of_wire, of_address}
use Rattle.addr_codecs.specs.Readings.{address_at}
use Rattle.addr_codecs.specs.Layout.{entry}
use Rattle.addr_codecs.specs.Texts.{addr_entry_text, addrv2_entry_text}
use Rattle.addr_codecs.specs.declared.form.Form.{Form}
use Rattle.addr_codecs.specs.declared.form.Form.TheVariants.{Addr, Addrv2}
use Rattle.addr_codecs.specs.declared.fault.MsgFault.{MsgFault}
use Rattle.addr_codecs.specs.declared.fault.MsgFault.TheVariants.{TooMany, Memory}
use Rattle.addr_codecs.specs.declared.message.TheConstants.{MAX_ENTRIES}

-- Reads an entry of `addr`: time, services, sixteen bytes of address, and port.
unfoldable pub addr_entry_at : List ℕ → Result (Option Entry × List ℕ) MsgFault
addr_entry_at bytes = do
  time ← fault_as of_wire (le_at w32 bytes)
  services ← fault_as of_wire (le_at w64 time.1)
  old ← fault_as of_wire (bytes_at 16 services.1)
  port ← fault_as of_wire (be_at w16 old.1)
  Ok (Some (entry time.0 services.0 port.0 (from_v1 old.0)), port.1)

-- Reads an entry of `addrv2` (BIP 155): time, services, address, and port.
unfoldable pub addrv2_entry_at : List ℕ → Result (Option Entry × List ℕ) MsgFault
addrv2_entry_at bytes = do
  time ← fault_as of_wire (le_at w32 bytes)
  services ← fault_as of_wire (compact_at time.1)
  addr ← fault_as of_address (address_at services.1)
  port ← fault_as of_wire (be_at w16 addr.1)
  Ok (option_map (entry time.0 services.0 port.0) addr.0, port.1)

-- Reads a message: the number of its entries, and then each by a reading of one entry.
unfoldable pub message_at : (List ℕ → Result (Option Entry × List ℕ) MsgFault) → List ℕ
    → Result (List (Option Entry) × List ℕ) MsgFault
message_at r bytes = do
  n ← fault_as of_wire (compact_at bytes)
  if nat_le n.0 MAX_ENTRIES then times_at 0 n.0 (λ _. r) n.1 else Err TooMany

-- The view of an answer is what the reading gives, unless memory ran out.
abbrev pub GivesUnlessMemory : {X Y : Type 0} → (X → Y) → Result X MsgFault → Result Y MsgFault
    → Type 0
GivesUnlessMemory view (Ok x) read = read ≡ Ok (view x)
GivesUnlessMemory view (Err e) read = e ≢ Memory → read ≡ Err e

-- Reads an entry of a form.
abbrev pub entry_at : Form → List ℕ → Result (Option Entry × List ℕ) MsgFault
entry_at Addr bytes = addr_entry_at bytes
entry_at Addrv2 bytes = addrv2_entry_at bytes

-- how an entry is written in a message of the form
abbrev pub text_in : Form → Entry → List ℕ
text_in Addr e = addr_entry_text e
text_in Addrv2 e = addrv2_entry_text e

-- a message of the form can have the address of the entry
abbrev pub CanWrite : Form → Entry → Type 0
CanWrite Addr e = (e.peer.addr.net ≡ Ipv4) ⊎ (e.peer.addr.net ≡ Ipv6)
CanWrite Addrv2 e = Unit {0}
