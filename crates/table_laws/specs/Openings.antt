-- Why a record of a file is lost when the file is opened.
use Rattle.std.specs.Prelude.{◌≡◌, ◌≢◌, ◌⊎◌, ℕ, ◌+◌, ◌<◌, ◌++◌, length, slice_get, count_by, true, false, not, is_some, IsSome, Contains, Option, Some, None, ⊤}
use Rattle.net_addr.specs.Ranges.{is_valid}
use Rattle.net_addr.specs.declared.peer.Peer.{Peer}
use Rattle.placing.specs.Places.{Places, new_bucket, new_slot, tried_bucket, tried_slot}
use Rattle.peer_rec.specs.Rec.{buckets_of, is_tried}
use Rattle.peer_rec.specs.Snapshot.{Snapshot}
use Rattle.peer_rec.specs.declared.file_rec.FileRec.{FileRec}
use Rattle.peer_rec.specs.declared.place.Place.TheVariants.{Tried}
use Rattle.peer_rec.specs.declared.rec.Rec.{Rec}
use Rattle.table_machine.specs.Restoring.{duplicate, record_of, restored, uses_buckets}
use Rattle.table_machine.specs.Snapshot.{snapshot_of}
use Rattle.table_machine.specs.Sound.{IsSound}
use Rattle.table_machine.specs.State.{State, find_peer, is_new_at, is_tried_at}

-- a new record of the file is there: its number is its index, and it has a bucket
abbrev pub IsPlacedNew : State → ℕ → FileRec → Type 0
IsPlacedNew st index f =
    (q : Rec) × Contains st.records q × (q ≡ record_of f index q.place)
    × (0 < length (buckets_of q))

-- another record than the one of the number is in the bucket, at the slot of this peer
abbrev pub HasOther : State → ℕ → Peer → ℕ → Type 0
HasOther st number peer bucket =
    (q : Rec) × Contains st.records q × (q.number ≢ number)
    × (is_new_at st.places bucket (new_slot st.places peer bucket) q ≡ true)

-- A new record is lost: its address is not valid; or for each bucket that lists it, if any does,
-- another one is at its slot in the bucket of its source, and in the listed one if the file's
-- buckets are used.
abbrev pub LosesNew : Snapshot → State → ℕ → FileRec → Type 0
LosesNew snap st index f =
    (is_valid f.peer.addr ≡ false)
    ⊎ ((bucket : ℕ) → Contains snap.listed (bucket, index)
    → HasOther st index f.peer (new_bucket st.places f.peer f.source)
    × (uses_buckets snap st.places ≡ true → HasOther st index f.peer bucket))

-- a tried record of the file is there
abbrev pub IsPlacedTried : State → FileRec → Type 0
IsPlacedTried st f = (number : ℕ) × Contains st.records (record_of f number Tried)

-- a tried record is lost: its address is not valid, or one is at its slot
abbrev pub LosesTried : State → FileRec → Type 0
LosesTried st f =
    let bucket = tried_bucket st.places f.peer in
    (is_valid f.peer.addr ≡ false)
    ⊎ ((q : Rec) × Contains st.records q
    × (is_tried_at st.places bucket (tried_slot st.places f.peer bucket) q ≡ true))

-- a record of the tables comes from the file
abbrev pub IsFromFile : Snapshot → Rec → Type 0
IsFromFile snap q =
    ((f : FileRec) × (slice_get snap.new_recs q.number ≡ Some f)
    × (q ≡ record_of f q.number q.place))
    ⊎ ((f : FileRec) × Contains snap.tried_recs f × (q ≡ record_of f q.number Tried))

-- how many records of the file have peers that the tables do not have
abbrev pub lost_at_opening : Snapshot → Places → ℕ
lost_at_opening snap places =
    count_by (λ f. not (is_some (find_peer (restored snap places) f.peer)))
    (snap.new_recs ++ snap.tried_recs)

-- An opening makes no record: each of the tables comes from the file. Each record of the file is
-- there, or is lost with a cause. Without duplicates there are as many records as in the file, less
-- those that are lost.
pub record KeepsAtOpening (snap : Snapshot) (places : Places) : Type 0 where
  pub new : (index : ℕ) (f : FileRec) → slice_get snap.new_recs index ≡ Some f
      → IsPlacedNew (restored snap places) index f ⊎ LosesNew snap (restored snap places) index f
  pub tried : (f : FileRec) → Contains snap.tried_recs f
      → IsPlacedTried (restored snap places) f ⊎ LosesTried (restored snap places) f
  pub only : (q : Rec) → Contains (restored snap places).records q → IsFromFile snap q
  pub count : duplicate snap ≡ None → IsSound (restored snap places)
      → length (restored snap places).records + lost_at_opening snap places
      ≡ length snap.new_recs + length snap.tried_recs

-- the same of the file that tables were opened from, if there was one
abbrev pub KeepsOpened : Option Snapshot → Places → Type 0
KeepsOpened None places = ⊤
KeepsOpened (Some snap) places = KeepsAtOpening snap places

-- the tables that are opened from a save of others, perhaps with another asmap
abbrev pub opened_again : Places → State → State
opened_again places st = restored (snapshot_of st) places

-- one is at the slot of the record's peer, in the bucket of its source
abbrev pub IsNewFull : State → Rec → Type 0
IsNewFull st r =
    let bucket = new_bucket st.places r.peer r.source in
    (q : Rec) × Contains st.records q
    × (is_new_at st.places bucket (new_slot st.places r.peer bucket) q ≡ true)

-- one is at the slot of the record's peer in the tried table
abbrev pub IsTriedFull : State → Rec → Type 0
IsTriedFull st r =
    let bucket = tried_bucket st.places r.peer in
    (q : Rec) × Contains st.records q
    × (is_tried_at st.places bucket (tried_slot st.places r.peer bucket) q ≡ true)

-- how many records have peers that the other tables do not have
abbrev pub missing_count : State → State → ℕ
missing_count old new = count_by (λ r. not (is_some (find_peer new r.peer))) old.records

-- Whatever the asmap is when saved tables are opened again: each record's peer is there, or one of
-- the records is at its slot; and there are as many records as before, less those whose peers are
-- gone.
pub record KeepsOverOpening (st : State) (places : Places) : Type 0 where
  pub sound : IsSound (opened_again places st)
  pub new : (r : Rec) → Contains st.records r → is_tried r ≡ false
      → IsSome (find_peer (opened_again places st) r.peer) ⊎ IsNewFull (opened_again places st) r
  pub tried : (r : Rec) → Contains st.records r → is_tried r ≡ true
      → IsSome (find_peer (opened_again places st) r.peer) ⊎ IsTriedFull (opened_again places st) r
  pub count : length (opened_again places st).records + missing_count st (opened_again places st)
      ≡ length st.records
