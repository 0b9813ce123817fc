-- What a command is answered, and what it leaves.
use Rattle.std.specs.Prelude.{◌≡◌, ◌≢◌, ◌⊎◌, ℕ, ◌<◌, ◌≤◌, List, length, take, count_by, not, Option, ⊤}
use Rattle.net_addr.specs.Address.{Address}
use Rattle.net_addr.specs.declared.peer.Entry.{Entry}
use Rattle.addr_codecs.specs.Layout.{IsAddrMessage, IsAddrv2Message, HasAddrFault, HasAddrv2Fault}
use Rattle.addr_codecs.specs.declared.fault.MsgFault.{MsgFault}
use Rattle.addr_codecs.specs.declared.fault.MsgFault.TheVariants as msg
use Rattle.peer_rec.specs.Rec.{is_tried}
use Rattle.peer_rec.specs.declared.answers.Counts.{Counts}
use Rattle.table_machine.specs.State.{State, After, find_peer}
use Rattle.table_machine.specs.Tried.{good, attempt, connected, set_services}
use Rattle.table_machine.specs.Clashes.{resolve, clash_pick}
use Rattle.table_machine.specs.Picks.{select, sample}
use Rattle.log_lines.specs.declared.command.Command.{Command}
use Rattle.log_lines.specs.declared.command.Command.TheVariants as command
use Rattle.log_lines.specs.declared.reply.Reply.{Reply}
use Rattle.log_lines.specs.declared.reply.Reply.TheVariants as reply
use Rattle.manager.specs.Machine.{Machine, with_tables}
use Rattle.taking.specs.Messages.{take_entries}

-- a message at the machine's clock
abbrev pub take_message : Machine → List (Option Entry) → Address → List ℕ → After ℕ
take_message m entries source words = take_entries m.tables m.clock entries source words

-- A message of these entries. One with more entries than there are random words changes nothing.
abbrev pub EntriesStep : Machine → List (Option Entry) → Address → List ℕ → Reply → Machine → Type 0
EntriesStep old entries source words answer new =
    ((length words < length entries)
    × (answer ≡ reply.Short (length entries) (length words)) × (new ≡ old))
    ⊎ ((length entries ≤ length words)
    × (answer ≡ reply.Added (take_message old entries source words).answer (length entries))
    × (new ≡ with_tables old (take_message old entries source words).state))

-- a message with a fault, which changes nothing, or one of entries
abbrev pub MessageStep : (List (Option Entry) → Type 0) → (MsgFault → Type 0) → Machine
    → Address → List ℕ → Reply → Machine → Type 0
MessageStep IsMessage HasFault old source words answer new =
    ((fault : MsgFault) × HasFault fault × (fault ≢ msg.Memory)
    × (answer ≡ reply.Refused fault) × (new ≡ old))
    ⊎ ((entries : List (Option Entry)) × IsMessage entries
    × EntriesStep old entries source words answer new)

-- what a call of the tables answers, in a reply, and the tables after it
abbrev pub CallStep : {A : Type 0} → Machine → (A → Reply) → After A → Reply → Machine → Type 0
CallStep old reply_of after answer new =
    (answer ≡ reply_of after.answer) × (new ≡ with_tables old after.state)

-- the answer to a question, which changes nothing
abbrev pub Tells : Machine → Reply → Reply → Machine → Type 0
Tells old told answer new = (answer ≡ told) × (new ≡ old)

-- how many records are in each table, and how many collisions there are
abbrev pub counts_of : State → Counts
counts_of st = record {
  new_count = count_by (λ r. not (is_tried r)) st.records;
  tried_count = count_by is_tried st.records;
  clashes = length st.collisions;
}

-- A sample of the tables. With fewer random words than there are records it changes nothing.
abbrev pub SampleStep : Machine → ℕ → ℕ → List ℕ → List ℕ → Reply → Machine → Type 0
SampleStep old max pct classes words answer new =
    ((length words < length old.tables.order)
    × Tells old (reply.Short (length old.tables.order) (length words)) answer new)
    ⊎ ((length old.tables.order ≤ length words)
    × CallStep old reply.Sample (sample old.tables max pct classes words old.clock) answer new)

-- the command is none of those that save
abbrev pub SavesNothing : Command → Type 0
SavesNothing command.Save = ⊥
SavesNothing command.SaveBegin = ⊥
SavesNothing (command.SaveStep count) = ⊥
SavesNothing command.SaveEnd = ⊥
SavesNothing other = ⊤

-- a sample is of at most 100 percent
abbrev pub HasPercent : Command → Type 0
HasPercent (command.Sample max pct classes words) = pct ≤ 100
HasPercent other = ⊤

-- what a command is answered, and the machine after it
abbrev pub Step : Machine → Command → Reply → Machine → Type 0
Step old (command.Now time) answer new =
    (answer ≡ reply.Now time) × (new ≡ record old { clock = time })
Step old (command.Addr source payload words) answer new =
    MessageStep (IsAddrMessage payload) (HasAddrFault payload) old source words answer new
Step old (command.Addr2 source payload words) answer new =
    MessageStep (IsAddrv2Message payload) (HasAddrv2Fault payload) old source words answer new
Step old (command.Good peer testing) answer new =
    CallStep old reply.Good (good old.tables old.clock peer testing) answer new
Step old (command.Attempt peer count) answer new =
    CallStep old reply.Known (attempt old.tables old.clock peer count) answer new
Step old (command.Connected peer) answer new =
    CallStep old reply.Known (connected old.tables old.clock peer) answer new
Step old (command.Services peer services) answer new =
    CallStep old reply.Known (set_services old.tables peer services) answer new
Step old (command.Find peer) answer new =
    Tells old (reply.Found (find_peer old.tables peer)) answer new
Step old command.Size answer new = Tells old (reply.Size (counts_of old.tables)) answer new
Step old (command.Select new_only nets words) answer new =
    Tells old (reply.Picked (select old.tables new_only nets words old.clock)) answer new
Step old (command.Sample max pct classes words) answer new =
    SampleStep old max pct classes words answer new
Step old command.Resolve answer new =
    CallStep old reply.Resolved (resolve old.tables old.clock) answer new
Step old (command.Clash word) answer new =
    CallStep old reply.Clash (clash_pick old.tables word) answer new
Step old command.Dump answer new = Tells old (reply.Dump old.tables.records) answer new
Step old other answer new = ⊥

-- the entries of a message before some entry were taken
abbrev pub TookFirst : Machine → List (Option Entry) → Address → List ℕ → Machine → Type 0
TookFirst old entries source words new =
    (k : ℕ) × (k < length entries) × (length entries ≤ length words)
    × (new ≡ with_tables old
    (take_entries old.tables old.clock (take k entries) source words).state)

-- what a message leaves that ran out of memory: the machine as it was, or some of its first entries
-- taken
abbrev pub LeavesEntries : (List (Option Entry) → Type 0) → Machine → Address → List ℕ
    → Machine → Type 0
LeavesEntries IsMessage old source words new =
    (new ≡ old)
    ⊎ ((entries : List (Option Entry)) × IsMessage entries × TookFirst old entries source words new)

-- what a command leaves that ran out of memory
abbrev pub LeavesPart : Machine → Command → Machine → Type 0
LeavesPart old (command.Addr source payload words) new =
    LeavesEntries (IsAddrMessage payload) old source words new
LeavesPart old (command.Addr2 source payload words) new =
    LeavesEntries (IsAddrv2Message payload) old source words new
LeavesPart old other new = new ≡ old

-- the commands that need memory
abbrev pub NeedsMemory : Command → Type 0
NeedsMemory (command.Addr source payload words) = ⊤
NeedsMemory (command.Addr2 source payload words) = ⊤
NeedsMemory (command.Sample max pct classes words) = ⊤
NeedsMemory command.Dump = ⊤
NeedsMemory other = ⊥
