-- The state of the tables (`AddrManImpl` in addrman_impl.h of Bitcoin Core). It has no arrays of
-- slots: the occupant of a slot is the record that has this slot.
use Rattle.std.specs.Prelude.{ℕ, List, [], Bool, ◌&&◌, ◌==◌, Option, find}
use Rattle.std.specs.List.{list_any}
use Rattle.net_addr.specs.Same.{same_peer}
use Rattle.net_addr.specs.declared.peer.Peer.{Peer}
use Rattle.placing.specs.Places.{Places, new_slot, tried_bucket, tried_slot}
use Rattle.peer_rec.specs.Rec.{buckets_of, is_tried}
use Rattle.peer_rec.specs.declared.rec.Rec.{Rec}

-- The key and the asmap (`places`), the records by rising number, the order that samples are drawn
-- from (a list of their numbers), the collisions (the rising numbers of records that wait for a
-- slot of the tried table), the time of the last success in seconds since 1970, and the number of
-- the next record.
pub record State : Type 0 where
  pub places : Places
  pub records : List Rec
  pub order : List ℕ
  pub collisions : List ℕ
  pub last_good : ℕ
  pub next_number : ℕ

-- an answer, and the state after it
pub record After (A : Type 0) : Type 0 where
  pub answer : A
  pub state : State

-- This answer, and this state after it.
abbrev pub outcome : {A : Type 0} → A → State → After A
outcome answer st = record { answer = answer; state = st }

-- no records; the time of the last success is 1, the least (`m_last_good{1}`)
abbrev pub empty_state : Places → State
empty_state places = record {
  places = places;
  records = [];
  order = [];
  collisions = [];
  last_good = 1;
  next_number = 0;
}

-- the record of the peer
abbrev pub find_peer : State → Peer → Option Rec
find_peer st peer = find (λ r. same_peer peer r.peer) st.records

-- the record of the number
abbrev pub by_number : State → ℕ → Option Rec
by_number st number = find (λ r. r.number == number) st.records

-- the record is in the new table's bucket, at the slot
abbrev pub is_new_at : Places → ℕ → ℕ → Rec → Bool
is_new_at places bucket slot r =
    list_any (λ b. b == bucket) (buckets_of r) && new_slot places r.peer bucket == slot

-- the record at the slot of the new table's bucket
abbrev pub new_rec_at : State → ℕ → ℕ → Option Rec
new_rec_at st bucket slot = find (is_new_at st.places bucket slot) st.records

-- the record is in the tried table, at the slot of the bucket
abbrev pub is_tried_at : Places → ℕ → ℕ → Rec → Bool
is_tried_at places bucket slot r =
    is_tried r && tried_bucket places r.peer == bucket && tried_slot places r.peer bucket == slot

-- the record at the slot of the tried table's bucket
abbrev pub tried_rec_at : State → ℕ → ℕ → Option Rec
tried_rec_at st bucket slot = find (is_tried_at st.places bucket slot) st.records

-- the record at the peer's own slot of the tried table
abbrev pub tried_occupant : State → Peer → Option Rec
tried_occupant st peer =
    let bucket = tried_bucket st.places peer in
    tried_rec_at st bucket (tried_slot st.places peer bucket)
