-- An index and a grid that belong to a state.
use Rattle.std.specs.Prelude.{◌≡◌, ℕ, ◌<◌, [], map, Option, Some, None, IsPermutation}
use Rattle.placing.specs.Places.{Places}
use Rattle.peer_rec.specs.Snapshot.{Snapshot}
use Rattle.peer_rec.specs.declared.rec.Rec.{Rec}
use Rattle.slot_grid.specs.Slots.{Slots, new_id, tried_id}
use Rattle.slot_grid.specs.declared.sizes.TheConstants.{NEW_BUCKETS, TRIED_BUCKETS, SLOTS}
use Rattle.peer_index.specs.Order.{Order, IsOrder, rec_of, records}
use Rattle.table_machine.specs.State.{State, new_rec_at, tried_rec_at}
use Rattle.table_machine.specs.Restoring.{duplicate}
use Rattle.tables.specs.declared.restore_fault.RestoreFault.{RestoreFault}
use Rattle.tables.specs.declared.restore_fault.RestoreFault.TheVariants.{Duplicate, Memory}

-- the record that an id leads to, if there is an id
abbrev pub rec_by : Order → Option ℕ → Option Rec
rec_by order None = None
rec_by order (Some id) = rec_of order id

-- The index has the records of the state, in the same order. Each slot of the grid has the id of
-- the record that occupies it, and none exactly if it is empty.
pub record AreOf (st : State) (slots : Slots) (order : Order) : Type 0 where
  pub index : IsOrder order
  pub recs : IsPermutation st.records (records order)
  pub numbers : map (λ r. r.number) (records order) ≡ st.order
  pub new : (bucket slot : ℕ) → bucket < NEW_BUCKETS → slot < SLOTS
      → rec_by order (new_id slots bucket slot) ≡ new_rec_at st bucket slot
  pub new_none : (bucket slot : ℕ) → bucket < NEW_BUCKETS → slot < SLOTS
      → new_rec_at st bucket slot ≡ None → new_id slots bucket slot ≡ None
  pub tried : (bucket slot : ℕ) → bucket < TRIED_BUCKETS → slot < SLOTS
      → rec_by order (tried_id slots bucket slot) ≡ tried_rec_at st bucket slot
  pub tried_none : (bucket slot : ℕ) → bucket < TRIED_BUCKETS → slot < SLOTS
      → tried_rec_at st bucket slot ≡ None → tried_id slots bucket slot ≡ None

-- Index and grid belong to the state. Key, asmap and the next number are the state's, there is no
-- collision, and no peer was reached yet.
pub record ArePartsOf (st : State) (placer : Places) (slots : Slots) (order : Order)
    (next_free : ℕ) : Type 0 where
  pub places : st.places ≡ placer
  pub next : st.next_number ≡ next_free
  pub nothing_waits : st.collisions ≡ []
  pub last_good : st.last_good ≡ 1
  pub belong : AreOf st slots order
  pub open belong use *

-- why a snapshot is not restored: the index is that of the first duplicate, and memory may always
-- run out
abbrev pub IsCause : Snapshot → RestoreFault → Type 0
IsCause snap (Duplicate index) = duplicate snap ≡ Some index
IsCause snap Memory = Unit {0}
