-- What the calls on messages without tables return and write.
use Rattle.std.specs.Prelude.{◌≡◌, ◌≢◌, ◌⊎◌, ◌<◌, ◌≤◌, ℕ, List, length, flat_map, option_to_list, Option}
use Rattle.addr_codecs.specs.Layout.{IsMessage, HasMessageFault}
use Rattle.addr_codecs.specs.declared.fault.MsgFault.{MsgFault}
use Rattle.addr_codecs.specs.declared.fault.MsgFault.TheVariants.{Memory}
use Rattle.addr_codecs.specs.declared.form.Form.{Form}
use Rattle.addr_codecs.specs.declared.message.TheConstants.{MAX_ENTRIES}
use Rattle.c_values.specs.declared.code.TheConstants.{OK, MEMORY, ARGUMENT, REFUSED}
use Rattle.c_values.specs.declared.structs.AddrmanEntry.{AddrmanEntry}
use Rattle.c_values.specs.declared.structs.AddrmanFault.{AddrmanFault}
use Rattle.c_values.specs.Entries.{EntriesPut, entries_in}
use Rattle.c_values.specs.Faults.{fault_at, fault_number}
use Rattle.net_addr.specs.declared.peer.Entry.{Entry}
use Rattle.addrman_c.specs.Answering.{IsWritten}

-- the payload is no message, and the output says its first fault
abbrev pub IsRefused : Form → List ℕ → ℕ → AddrmanFault → Type 0
IsRefused form payload code out =
    (why : MsgFault) × HasMessageFault form payload why × (why ≢ Memory)
    × (code ≡ REFUSED) × (out ≡ fault_at (fault_number why) 0)

-- how many entries a payload has, those that are skipped among them
abbrev pub CountCall : Form → List ℕ → ℕ → ℕ → AddrmanFault → Type 0
CountCall form payload code count out =
    (code ≡ MEMORY)
    ⊎ (IsRefused form payload code out
    ⊎ ((entries : List (Option Entry)) × IsMessage form payload entries
    × (code ≡ OK) × (count ≡ length entries)))

-- the entries that are not skipped
abbrev pub known : List (Option Entry) → List Entry
known entries = flat_map option_to_list entries

-- they are written, or there is no memory for them
abbrev pub PutKnown : List (Option Entry) → ℕ → List AddrmanEntry → List AddrmanEntry → ℕ → Type 0
PutKnown entries code old new count =
    ((code ≡ MEMORY) × (new ≡ old)) ⊎ EntriesPut (known entries) code old new count

-- the entries of a payload, without those that are skipped, whole or not at all
abbrev pub ReadMessageCall : Form → List ℕ → ℕ → List AddrmanEntry → List AddrmanEntry → ℕ
    → AddrmanFault → Type 0
ReadMessageCall form payload code old new count out =
    ((code ≡ MEMORY) × (new ≡ old))
    ⊎ ((IsRefused form payload code out × (new ≡ old))
    ⊎ ((entries : List (Option Entry)) × IsMessage form payload entries
    × EntriesPut (known entries) code old new count))

-- The message of this form of entries, of those that it has a form for. More entries than a message
-- may have, and one whose address is not valid, are refused.
abbrev pub WriteMessageCall : Form → List AddrmanEntry → ℕ → List ℕ → List ℕ → ℕ → Type 0
WriteMessageCall form structs code old new count =
    ((MAX_ENTRIES < length structs) × (code ≡ ARGUMENT) × (new ≡ old))
    ⊎ ((length structs ≤ MAX_ENTRIES)
    × (((code ≡ MEMORY) × (new ≡ old))
    ⊎ (((length (entries_in structs) < length structs) × (code ≡ ARGUMENT) × (new ≡ old))
    ⊎ ((length (entries_in structs) ≡ length structs)
    × IsWritten form (entries_in structs) code old new count))))
