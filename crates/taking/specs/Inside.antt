-- Words of private contracts.
use Rattle.std.specs.Prelude.{◌≡◌, ℕ, ◌<◌, List, length, Option}
use Rattle.net_addr.specs.Address.{Address}
use Rattle.net_addr.specs.declared.peer.Entry.{Entry}
use Rattle.table_machine.specs.State.{State}
use Rattle.taking.specs.declared.messages.MessageFault.{MessageFault}
use Rattle.taking.specs.declared.messages.MessageFault.TheVariants.{Memory, Refused, ShortWords}
use Rattle.taking.specs.Taking.{HasFirst}

-- why entries are not added, and what is left
abbrev pub IsEntriesFault : List (Option Entry) → State → ℕ → Address → List ℕ → MessageFault
    → State → Type 0
IsEntriesFault entries old now source words Memory new =
    HasFirst entries old now source words new
IsEntriesFault entries old now source words (Refused fault) new = ⊥
IsEntriesFault entries old now source words (ShortWords need have) new =
    (need ≡ length entries) × (have ≡ length words) × (have < need) × (new ≡ old)
