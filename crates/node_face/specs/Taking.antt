-- Why a message is not taken.
use Rattle.std.specs.Prelude.{◌≡◌, ◌≢◌, ◌⊎◌, ℕ, ◌<◌, ◌≤◌, ◌^◌, List, length, Option}
use Rattle.net_addr.specs.Address.{Address}
use Rattle.net_addr.specs.declared.peer.Entry.{Entry}
use Rattle.addr_codecs.specs.Layout.{IsMessage, HasMessageFault}
use Rattle.addr_codecs.specs.declared.form.Form.{Form}
use Rattle.addr_codecs.specs.declared.fault.MsgFault.TheVariants as msg
use Rattle.table_machine.specs.State.{State}
use Rattle.taking.specs.Taking.{HasFirst}
use Rattle.node_face.specs.declared.entries.TakeFault.{TakeFault}
use Rattle.node_face.specs.declared.entries.TakeFault.TheVariants.{Full, Refused, ShortWords, Memory}

-- why a message is not taken, and what is left: the numbers of records are used up, the first fault
-- of the payload, too few random words, or memory, which may have run out between two entries
abbrev pub IsTakeFault : Form → List ℕ → State → ℕ → Address → List ℕ → TakeFault → State → Type 0
IsTakeFault form payload old now source words Full new = (2 ^ 62 ≤ old.next_number) × (new ≡ old)
IsTakeFault form payload old now source words (Refused fault) new =
    HasMessageFault form payload fault × (fault ≢ msg.Memory) × (new ≡ old)
IsTakeFault form payload old now source words (ShortWords need have) new =
    (entries : List (Option Entry)) × IsMessage form payload entries
    × (need ≡ length entries) × (have ≡ length words) × (have < need) × (new ≡ old)
IsTakeFault form payload old now source words Memory new =
    (new ≡ old) ⊎ ((entries : List (Option Entry)) × IsMessage form payload entries
    × HasFirst entries old now source words new)
