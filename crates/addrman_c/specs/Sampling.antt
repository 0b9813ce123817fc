-- What a sample returns, writes and leaves.
use Rattle.std.specs.Prelude.{◌≡◌, ◌⊎◌, ℕ, ◌<◌, ◌≤◌, ◌^◌, List, length, flat_map, option_to_list, option_map}
use Rattle.net_addr.specs.declared.peer.Entry.{Entry}
use Rattle.net_addr.specs.declared.peer.Peer.{Peer}
use Rattle.peer_rec.specs.declared.rec.Rec.{Rec}
use Rattle.table_machine.specs.State.{State, find_peer}
use Rattle.table_machine.specs.Picks.{sample}
use Rattle.c_values.specs.declared.code.TheConstants.{MEMORY, ARGUMENT, SHORT_WORDS}
use Rattle.c_values.specs.declared.structs.AddrmanEntry.{AddrmanEntry}
use Rattle.c_values.specs.declared.structs.AddrmanRecord.{AddrmanRecord}
use Rattle.c_values.specs.declared.values.AddrmanPeer.{AddrmanPeer}
use Rattle.c_values.specs.Entries.{EntriesPut}
use Rattle.c_values.specs.Records.{PeersPut}
use Rattle.node_calls.specs.Unfiltered.{sample_unfiltered}
use Rattle.addrman_c.specs.Calls.{RecordsCall, Refuses}

-- A sample. With fewer words than records the code is SHORT_WORDS and no other, so MEMORY says that
-- there are words enough. Unless words or memory lack, the order of the records is that after the
-- sample, also if the output has too little room.
abbrev pub SampleCall : ℕ → ℕ → List ℕ → List ℕ → ℕ → State → ℕ → List AddrmanPeer
    → List AddrmanPeer → ℕ → State → Type 0
SampleCall most percent classes words now old code out_old out_new count new =
    (((100 < percent) ⊎ (2 ^ 32 ≤ length words)) × Refuses ARGUMENT old code new)
    ⊎ ((percent ≤ 100) × (length words < 2 ^ 32)
    × (((length words < length old.order) × (count ≡ length old.order)
    × Refuses SHORT_WORDS old code new)
    ⊎ ((length old.order ≤ length words)
    × (Refuses MEMORY old code new
    ⊎ ((new ≡ (sample old most percent classes words now).state)
    × PeersPut (sample old most percent classes words now).answer code out_old out_new count)))))

-- what is said of a record
abbrev pub entry : Rec → Entry
entry r = record { time = r.time; services = r.services; peer = r.peer }

-- what is said of the records of some peers
abbrev pub entries_of : State → List Peer → List Entry
entries_of st peers =
    flat_map (λ peer. option_to_list (option_map entry (find_peer st peer))) peers

-- they are written, or there is no memory for them
abbrev pub PutEntries : List Entry → ℕ → List AddrmanEntry → List AddrmanEntry → ℕ → Type 0
PutEntries entries code old new count =
    ((code ≡ MEMORY) × (new ≡ old)) ⊎ EntriesPut entries code old new count

-- A sample with times and services. It is as SampleCall says, but that after MEMORY the order may
-- be that after the sample.
abbrev pub SampleEntriesCall : ℕ → ℕ → List ℕ → List ℕ → ℕ → State → ℕ → List AddrmanEntry
    → List AddrmanEntry → ℕ → State → Type 0
SampleEntriesCall most percent classes words now old code out_old out_new count new =
    (((100 < percent) ⊎ (2 ^ 32 ≤ length words)) × Refuses ARGUMENT old code new)
    ⊎ ((percent ≤ 100) × (length words < 2 ^ 32)
    × (((length words < length old.order) × (count ≡ length old.order)
    × Refuses SHORT_WORDS old code new)
    ⊎ ((length old.order ≤ length words)
    × (Refuses MEMORY old code new
    ⊎ ((new ≡ (sample old most percent classes words now).state)
    × PutEntries (entries_of new (sample old most percent classes words now).answer) code out_old
    out_new count)))))

-- A sample of all records, terrible ones among them, as records. With fewer words than records the
-- code is SHORT_WORDS and no other.
abbrev pub UnfilteredCall : ℕ → ℕ → List ℕ → List ℕ → State → ℕ → List AddrmanRecord
    → List AddrmanRecord → ℕ → Type 0
UnfilteredCall most percent classes words st code old new count =
    (((100 < percent) ⊎ (2 ^ 32 ≤ length words)) × (code ≡ ARGUMENT))
    ⊎ ((percent ≤ 100) × (length words < 2 ^ 32)
    × (((length words < length st.order) × (count ≡ length st.order) × (code ≡ SHORT_WORDS))
    ⊎ ((length st.order ≤ length words)
    × RecordsCall (sample_unfiltered st most percent classes words) code old new count)))
