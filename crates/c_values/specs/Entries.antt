-- What the structs of entries mean, one and many.
use Rattle.std.specs.Prelude.{◌≡◌, ◌⊎◌, ℕ, ◌<◌, ◌≤◌, List, drop, length, slice_get, flat_map, option_to_list, option_map, Option, Some}
use Rattle.net_addr.specs.declared.peer.Entry.{Entry}
use Rattle.c_values.specs.declared.code.TheConstants.{OK, SHORT_BUFFER}
use Rattle.c_values.specs.declared.structs.AddrmanEntry.{AddrmanEntry}
use Rattle.c_values.specs.Values.{peer_in}

-- the struct has the fields of the entry
pub record IsEntry (out : AddrmanEntry) (e : Entry) : Type 0 where
  pub services : out.services ≡ e.services
  pub peer : peer_in out.peer ≡ Some e.peer
  pub time : out.time ≡ e.time

-- the structs have the fields of the entries, in the same order
abbrev pub AreEntries : List AddrmanEntry → List Entry → Type 0
AreEntries out entries = (length entries ≤ length out)
    × ((i : ℕ) (told : AddrmanEntry) (e : Entry) → slice_get out i ≡ Some told
    → slice_get entries i ≡ Some e → IsEntry told e)

-- entries are written whole, and nothing after them; the output is as it was if it has less room
abbrev pub EntriesPut : List Entry → ℕ → List AddrmanEntry → List AddrmanEntry → ℕ → Type 0
EntriesPut entries code old new count =
    (count ≡ length entries)
    × (((length old < length entries) × (code ≡ SHORT_BUFFER) × (new ≡ old))
    ⊎ ((code ≡ OK) × AreEntries new entries
    × (drop (length entries) new ≡ drop (length entries) old)))

-- the entry, if its address is one
abbrev pub entry_in : AddrmanEntry → Option Entry
entry_in out = option_map
    (λ peer. record { time = out.time; services = out.services; peer = peer }) (peer_in out.peer)

-- the entries, without those whose address is none
abbrev pub entries_in : List AddrmanEntry → List Entry
entries_in structs = flat_map (λ out. option_to_list (entry_in out)) structs
