-- What a message that is taken at a time does to the tables, and why one is not taken.
use Rattle.std.specs.Prelude.{◌≡◌, ◌≢◌, ◌⊎◌, ℕ, ◌<◌, ◌≤◌, List, length, take, Option}
use Rattle.net_addr.specs.Address.{Address}
use Rattle.net_addr.specs.declared.peer.Entry.{Entry}
use Rattle.addr_codecs.specs.Layout.{IsMessage, HasMessageFault}
use Rattle.addr_codecs.specs.declared.form.Form.{Form}
use Rattle.addr_codecs.specs.declared.fault.MsgFault.TheVariants as msg
use Rattle.table_machine.specs.State.{State}
use Rattle.taking.specs.declared.messages.Added.{Added}
use Rattle.taking.specs.declared.messages.MessageFault.{MessageFault}
use Rattle.taking.specs.declared.messages.MessageFault.TheVariants.{Memory, Refused, ShortWords}
use Rattle.taking.specs.Messages.{take_entries}

-- the entries are added in order, each with the random word at its index
abbrev pub AreAdded : List (Option Entry) → State → ℕ → Address → List ℕ → Added → State → Type 0
AreAdded entries old now source words added new =
    (length entries ≤ length words)
    × (added.accepted ≡ (take_entries old now entries source words).answer)
    × (added.total ≡ length entries)
    × (new ≡ (take_entries old now entries source words).state)

-- the payload is a message, and its entries are added
abbrev pub IsAdded : Form → List ℕ → State → ℕ → Address → List ℕ → Added → State → Type 0
IsAdded form payload old now source words added new =
    (entries : List (Option Entry)) × IsMessage form payload entries
    × AreAdded entries old now source words added new

-- the first entries of a message are added, and not all: memory ran out at the next one
abbrev pub HasFirst : List (Option Entry) → State → ℕ → Address → List ℕ → State → Type 0
HasFirst entries old now source words new =
    (k : ℕ) × (k < length entries) × (length entries ≤ length words)
    × (new ≡ (take_entries old now (take k entries) source words).state)

-- why a message is not added, and what is left: its first fault, or fewer random words than it has
-- entries, and then the tables are as before; or no memory, and then some first entries are added
abbrev pub IsMessageFault : Form → List ℕ → State → ℕ → Address → List ℕ → MessageFault → State
    → Type 0
IsMessageFault form payload old now source words Memory new =
    (new ≡ old) ⊎ ((entries : List (Option Entry)) × IsMessage form payload entries
    × HasFirst entries old now source words new)
IsMessageFault form payload old now source words (Refused fault) new =
    HasMessageFault form payload fault × (fault ≢ msg.Memory) × (new ≡ old)
IsMessageFault form payload old now source words (ShortWords need have) new =
    (entries : List (Option Entry)) × IsMessage form payload entries
    × (need ≡ length entries) × (have ≡ length words) × (have < need) × (new ≡ old)
