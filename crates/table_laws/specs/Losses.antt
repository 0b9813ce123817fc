-- Why a record is lost: it is there before a step, and not after it.
use Rattle.std.specs.Prelude.{◌≡◌, ◌≢◌, ◌⊎◌, ℕ, [], ◌∷◌, Bool, true, Contains, count_by, not, is_some, nat_le}
use Rattle.net_addr.specs.Address.{Address}
use Rattle.net_addr.specs.declared.peer.Entry.{Entry}
use Rattle.net_addr.specs.declared.peer.Peer.{Peer}
use Rattle.placing.specs.Places.{new_slot}
use Rattle.peer_rec.specs.Rec.{buckets_of, is_terrible, is_tried}
use Rattle.peer_rec.specs.declared.rec.Rec.{Rec}
use Rattle.table_machine.specs.Entries.{add}
use Rattle.table_machine.specs.State.{State, by_number, is_new_at}
use Rattle.table_machine.specs.Tried.{good}

-- the record of this number and peer is there
abbrev pub HasRecord : State → Rec → Type 0
HasRecord st r =
    (q : Rec) × Contains st.records q × (q.number ≡ r.number) × (q.peer ≡ r.peer)

-- The record was in one bucket of the new table only, and another one is in its slot there now.
pub record LosesLastSlot (old new : State) (r q : Rec) : Type 0 where
  pub bucket : ℕ
  pub last : buckets_of r ≡ bucket ∷ []
  pub has : Contains new.records q
  pub other : q.number ≢ r.number
  pub at : is_new_at old.places bucket (new_slot old.places r.peer bucket) q ≡ true

-- An entry of a message: a record that is lost is terrible, and the record of the entry's peer is
-- in its last slot now.
abbrev pub LosesByEntry : State → ℕ → Entry → State → Rec → Type 0
LosesByEntry old now entry new r =
    (is_terrible r now ≡ true)
    × ((q : Rec) × LosesLastSlot old new r q × (q.peer ≡ entry.peer))

-- an entry keeps each other record
abbrev pub KeepsByEntry : State → ℕ → Entry → Address → ℕ → ℕ → Type 0
KeepsByEntry st now entry source penalty word =
    let new = (add st now entry source penalty word).state in
    (r : Rec) → Contains st.records r → HasRecord new r ⊎ LosesByEntry st now entry new r

-- A success: in the last slot of a record that is lost is one that was in the tried table.
abbrev pub LosesBySuccess : State → State → Rec → Type 0
LosesBySuccess old new r =
    (q : Rec) × LosesLastSlot old new r q
    × ((was : Rec) × Contains old.records was × (was.number ≡ q.number) × (is_tried was ≡ true))

-- a success keeps each other record
abbrev pub KeepsBySuccess : State → ℕ → Peer → Bool → Type 0
KeepsBySuccess st now peer testing =
    let new = (good st now peer testing).state in
    (r : Rec) → Contains st.records r → HasRecord new r ⊎ LosesBySuccess st new r

-- how many records are not there any more
abbrev pub lost_count : State → State → ℕ
lost_count old new = count_by (λ r. not (is_some (by_number new r.number))) old.records

-- how many records have numbers that were not given before
abbrev pub made_count : State → State → ℕ
made_count old new = count_by (λ r. nat_le old.next_number r.number) new.records
