-- What the first entries of a message do to the tables, and why they are not added.
use Rattle.std.specs.Prelude.{◌≡◌, ◌≢◌, ◌⊎◌, ℕ, ◌<◌, List, length, take, Option}
use Rattle.addr_codecs.specs.Layout.{IsMessage, HasMessageFault}
use Rattle.addr_codecs.specs.declared.fault.MsgFault.TheVariants as msg
use Rattle.addr_codecs.specs.declared.form.Form.{Form}
use Rattle.net_addr.specs.Address.{Address}
use Rattle.net_addr.specs.declared.peer.Entry.{Entry}
use Rattle.table_machine.specs.State.{State}
use Rattle.taking.specs.Taking.{AreAdded, HasFirst}
use Rattle.taking.specs.declared.messages.Added.{Added}
use Rattle.taking.specs.declared.messages.MessageFault.{MessageFault}
use Rattle.taking.specs.declared.messages.MessageFault.TheVariants.{Memory, Refused, ShortWords}

-- the payload is a message, and its first entries are added, as many as there may be
abbrev pub IsFirstAdded : Form → List ℕ → ℕ → State → ℕ → Address → List ℕ → Added → State → Type 0
IsFirstAdded form payload most old now source words added new =
    (entries : List (Option Entry)) × IsMessage form payload entries
    × AreAdded (take most entries) old now source words added new

-- Why they are not added, and what is left: the payload's first fault, or fewer random words than
-- these entries, and then the tables are as before; or no memory, and then some of them are added.
abbrev pub IsFirstFault : Form → List ℕ → ℕ → State → ℕ → Address → List ℕ → MessageFault → State
    → Type 0
IsFirstFault form payload most old now source words Memory new =
    (new ≡ old) ⊎ ((entries : List (Option Entry)) × IsMessage form payload entries
    × HasFirst (take most entries) old now source words new)
IsFirstFault form payload most old now source words (Refused fault) new =
    HasMessageFault form payload fault × (fault ≢ msg.Memory) × (new ≡ old)
IsFirstFault form payload most old now source words (ShortWords need have) new =
    (entries : List (Option Entry)) × IsMessage form payload entries
    × (need ≡ length (take most entries)) × (have ≡ length words) × (have < need) × (new ≡ old)
