-- What the calls on tables return, write and leave. A call's definition ends with the state
-- before, the code, the outputs and the state after.
use Rattle.std.specs.Prelude.{◌≡◌, ◌⊎◌, ℕ, ◌<◌, ◌≤◌, ◌^◌, List, Bool, true, false, Option, Some, None, Result, Ok, Err, MatchOption, MatchResult}
use Rattle.net_addr.specs.Address.{Address}
use Rattle.net_addr.specs.declared.peer.Entry.{Entry}
use Rattle.net_addr.specs.declared.peer.Peer.{Peer}
use Rattle.addr_codecs.specs.declared.form.Form.{Form}
use Rattle.ban_list.specs.declared.ban.Ban.{Ban}
use Rattle.addr_codecs.specs.declared.form.Form.TheVariants.{Addr, Addrv2}
use Rattle.peer_rec.specs.declared.rec.Rec.{Rec}
use Rattle.peer_rec.specs.declared.answers.Good.{Good}
use Rattle.peer_rec.specs.declared.answers.Good.TheVariants.{Unknown, Already, Clash, Moved}
use Rattle.peer_rec.specs.declared.answers.Picked.{Picked}
use Rattle.peer_rec.specs.declared.answers.Picked.TheVariants.{One, Nothing, Exhausted}
use Rattle.table_machine.specs.State.{State, After, find_peer}
use Rattle.table_machine.specs.Entries.{add}
use Rattle.table_machine.specs.Tried.{good}
use Rattle.taking.specs.Taking.{IsAdded, IsMessageFault}
use Rattle.node_calls.specs.Chosen.{IsChosenAdded, IsChosenFault}
use Rattle.node_calls.specs.First.{IsFirstAdded, IsFirstFault}
use Rattle.taking.specs.declared.messages.Added.{Added}
use Rattle.taking.specs.declared.messages.MessageFault.{MessageFault}
use Rattle.taking.specs.declared.messages.MessageFault.TheVariants.{Memory, Refused, ShortWords}
use Rattle.c_values.specs.declared.code.TheConstants.{OK, MEMORY, ARGUMENT, FULL, SHORT_WORDS, REFUSED, NONE, EXHAUSTED}
use Rattle.c_values.specs.declared.structs.AddrmanAdded.{AddrmanAdded}
use Rattle.c_values.specs.declared.structs.AddrmanFault.{AddrmanFault}
use Rattle.c_values.specs.declared.structs.AddrmanPicked.{AddrmanPicked}
use Rattle.c_values.specs.declared.structs.AddrmanRecord.{AddrmanRecord}
use Rattle.c_values.specs.Faults.{fault_at, fault_number}
use Rattle.c_values.specs.Records.{IsRecord, RecordsPut}
use Rattle.c_values.specs.Values.{peer_in, bit}

-- nothing is done, for the reason that the code says
abbrev pub Refuses : ℕ → State → ℕ → State → Type 0
Refuses reason old code new = (code ≡ reason) × (new ≡ old)

-- the number of an outcome in the header
abbrev pub good_number : Good → ℕ
good_number Unknown = 0
good_number Already = 1
good_number Clash = 2
good_number Moved = 3

-- a peer was reached; None is no peer
abbrev pub GoodCall : Option Peer → Bool → ℕ → State → ℕ → ℕ → State → Type 0
GoodCall None testing now old code outcome new = Refuses ARGUMENT old code new
GoodCall (Some peer) testing now old code outcome new =
    (code ≡ OK) × (outcome ≡ good_number (good old now peer testing).answer)
    × (new ≡ (good old now peer testing).state)

-- a step of the tables that says whether a peer is known
abbrev pub KnownCall : Option Peer → (State → Peer → After Bool) → State → ℕ → ℕ → State → Type 0
KnownCall None step old code known new = Refuses ARGUMENT old code new
KnownCall (Some peer) step old code known new =
    (code ≡ OK) × (known ≡ bit (step old peer).answer) × (new ≡ (step old peer).state)

-- the next record number is below 2^62, so that a message fits
abbrev pub most_records : ℕ
most_records = 2 ^ 62

-- one entry; None is no address
abbrev pub AddCall : Option Peer → Option Address → ℕ → ℕ → ℕ → ℕ → ℕ → State → ℕ → ℕ → State
    → Type 0
AddCall None source time services penalty word now old code accepted new =
    Refuses ARGUMENT old code new
AddCall (Some peer) None time services penalty word now old code accepted new =
    Refuses ARGUMENT old code new
AddCall (Some peer) (Some source) time services penalty word now old code accepted new =
    let entry : Entry = record { time = time; services = services; peer = peer } in
    let after = add old now entry source penalty word in
    ((most_records ≤ old.next_number) × Refuses FULL old code new)
    ⊎ ((old.next_number < most_records)
    × (Refuses MEMORY old code new
    ⊎ ((code ≡ OK) × (accepted ≡ bit after.answer) × (new ≡ after.state))))

-- the form of a message
abbrev pub form_of : Bool → Form
form_of false = Addr
form_of true = Addrv2

-- the code and the outputs for the result of a message
abbrev pub Tells : Result Added MessageFault → ℕ → AddrmanAdded → AddrmanFault → Type 0
Tells (Ok taken) code added fault =
    (code ≡ OK) × (added.accepted ≡ taken.accepted) × (added.total ≡ taken.total)
Tells (Err Memory) code added fault = code ≡ MEMORY
Tells (Err (Refused refused)) code added fault =
    (code ≡ REFUSED) × (fault ≡ fault_at (fault_number refused) 0)
Tells (Err (ShortWords need have)) code added fault =
    (code ≡ SHORT_WORDS) × (added.accepted ≡ 0) × (added.total ≡ need)

-- a message; None is no address
abbrev pub MessageCall : Form → List ℕ → Option Address → List ℕ → ℕ → State → ℕ → AddrmanAdded
    → AddrmanFault → State → Type 0
MessageCall form payload None words now old code added fault new =
    Refuses ARGUMENT old code new
MessageCall form payload (Some source) words now old code added fault new =
    ((most_records ≤ old.next_number) × Refuses FULL old code new)
    ⊎ ((old.next_number < most_records) × ((answer : Result Added MessageFault)
    × MatchResult answer (λ taken. IsAdded form payload old now source words taken new)
    (λ why. IsMessageFault form payload old now source words why new)
    × Tells answer code added fault))

-- a message, of which at most so many entries are taken, the first ones; None is no address
abbrev pub FirstCall : Form → List ℕ → Option Address → ℕ → List ℕ → ℕ → State → ℕ → AddrmanAdded
    → AddrmanFault → State → Type 0
FirstCall form payload None most words now old code added fault new =
    Refuses ARGUMENT old code new
FirstCall form payload (Some source) most words now old code added fault new =
    ((most_records ≤ old.next_number) × Refuses FULL old code new)
    ⊎ ((old.next_number < most_records) × ((answer : Result Added MessageFault)
    × MatchResult answer
    (λ taken. IsFirstAdded form payload most old now source words taken new)
    (λ why. IsFirstFault form payload most old now source words why new)
    × Tells answer code added fault))

-- a message, of which those of the first entries after a shuffle are taken that a node has a use
-- for and that are not banned; None is no address
abbrev pub ChosenCall : Form → List ℕ → Option Address → ℕ → ℕ → List ℕ → List Ban → List ℕ → ℕ
    → State → ℕ → AddrmanAdded → AddrmanFault → State → Type 0
ChosenCall form payload None most services nets bans words now old code added fault new =
    Refuses ARGUMENT old code new
ChosenCall form payload (Some source) most services nets bans words now old code added fault new =
    ((most_records ≤ old.next_number) × Refuses FULL old code new)
    ⊎ ((old.next_number < most_records) × ((answer : Result Added MessageFault)
    × MatchResult answer
    (λ taken. IsChosenAdded form payload most services nets bans old now source words taken new)
    (λ why. IsChosenFault form payload most services nets bans old now source words why new)
    × Tells answer code added fault))

-- the code and the output for a pick
abbrev pub PickCall : Picked → ℕ → AddrmanPicked → Type 0
PickCall (One peer last_try) code picked =
    (code ≡ OK) × (peer_in picked.peer ≡ Some peer) × (picked.last_try ≡ last_try)
PickCall Nothing code picked = code ≡ NONE
PickCall Exhausted code picked = code ≡ EXHAUSTED

-- the code and the output for the occupant of a collision's slot
abbrev pub OccupantCall : Option (Peer × ℕ) → ℕ → AddrmanPicked → Type 0
OccupantCall None code picked = code ≡ NONE
OccupantCall (Some found) code picked =
    (code ≡ OK) × (peer_in picked.peer ≡ Some found.0) × (picked.last_try ≡ found.1)

-- the code and the output for the record of a peer; None is no peer
abbrev pub FindCall : Option Peer → State → ℕ → AddrmanRecord → Type 0
FindCall None st code out = code ≡ ARGUMENT
FindCall (Some peer) st code out = MatchOption (find_peer st peer) (code ≡ NONE)
    (λ r. (code ≡ OK) × IsRecord out r)

-- the records and how many they are, or there is no memory for them
abbrev pub RecordsCall : List Rec → ℕ → List AddrmanRecord → List AddrmanRecord → ℕ → Type 0
RecordsCall recs code old new count =
    ((code ≡ MEMORY) × (new ≡ old)) ⊎ RecordsPut recs code old new count

-- the code and the record for a pick: a peer that is picked has one
abbrev pub PickRecordCall : Picked → State → ℕ → AddrmanRecord → Type 0
PickRecordCall (One peer last_try) st code out =
    MatchOption (find_peer st peer) ⊥ (λ r. (code ≡ OK) × IsRecord out r)
PickRecordCall Nothing st code out = code ≡ NONE
PickRecordCall Exhausted st code out = code ≡ EXHAUSTED
