-- The tables that are restored from a file of peers (`AddrManImpl::Unserialize` in addrman.cpp of
-- Bitcoin Core).
use Rattle.std.specs.Prelude.{ℕ, ◌+◌, List, [], ◌∷◌, ◌++◌, length, Bool, ◌&&◌, ◌||◌, not, ◌==◌, Option, Some, None, is_some, bytes_eq, if◌then◌else◌}
use Rattle.std.specs.List.{list_any, range_with_len}
use Rattle.net_addr.specs.Ranges.{is_valid}
use Rattle.net_addr.specs.Same.{same_peer}
use Rattle.placing.specs.Places.{Places, new_bucket, new_slot, sum_of}
use Rattle.peer_rec.specs.Rec.{buckets_of}
use Rattle.peer_rec.specs.declared.rec.Rec.{Rec}
use Rattle.peer_rec.specs.declared.place.Place.{Place}
use Rattle.peer_rec.specs.declared.place.Place.TheVariants.{New, Tried}
use Rattle.slot_grid.specs.declared.sizes.TheConstants.{NEW_BUCKETS}
use Rattle.table_machine.specs.State.{State, empty_state, by_number, new_rec_at, tried_occupant}
use Rattle.table_machine.specs.Entries.{delete, give_bucket, with_last}
use Rattle.peer_rec.specs.declared.file_rec.FileRec.{FileRec}
use Rattle.peer_rec.specs.Snapshot.{Snapshot}
use Rattle.peer_rec.specs.declared.buckets.TheConstants.{MAX_LISTS}

-- the record made of a file's record, with a number and a place
abbrev pub record_of : FileRec → ℕ → Place → Rec
record_of r number place = record {
  number = number;
  peer = r.peer;
  source = r.source;
  time = r.time;
  services = r.services;
  last_success = r.last_success;
  last_try = 0;
  last_count = 0;
  attempts = r.attempts;
  place = place;
}

-- a record of the new table is appended, in no bucket yet, and gets the next number
abbrev pub with_new : State → FileRec → State
with_new st r = with_last st (record_of r st.next_number (New []))

-- the state with the new records of a list, one after another
abbrev pub with_all_new : State → List FileRec → State
with_all_new st [] = st
with_all_new st (r ∷ rs) = with_all_new (with_new st r) rs

-- A record of the tried table is appended and gets the next number, unless its address is not valid
-- or its slot is occupied: then it is lost.
abbrev pub with_tried : State → FileRec → State
with_tried st r =
    if not (is_valid r.peer.addr) || is_some (tried_occupant st r.peer) then st
    else with_last st (record_of r st.next_number Tried)

-- all of a list, one after another
abbrev pub with_all_tried : State → List FileRec → State
with_all_tried st [] = st
with_all_tried st (r ∷ rs) = with_all_tried (with_tried st r) rs

-- the record gets the bucket if the slot there is empty, else the state is the other one
abbrev pub give_or : State → Rec → ℕ → Option Rec → State → State
give_or st r bucket None other = give_bucket st r bucket
give_or st r bucket (Some occupant) other = other

-- by what the bucket has in the slot of the record's peer
abbrev pub give_if_empty : State → Rec → ℕ → State → State
give_if_empty st r bucket other =
    give_or st r bucket (new_rec_at st bucket (new_slot st.places r.peer bucket)) other

-- A record that a bucket of the file lists is placed. It gets that bucket if the file's buckets
-- are used and its slot there is empty. If not, it gets its source's bucket, if its slot in that
-- one is empty. Nothing changes if its address is not valid, or if eight buckets list it.
abbrev pub place_record : Bool → State → ℕ → Option Rec → State
place_record same st bucket None = st
place_record same st bucket (Some r) =
    if not (is_valid r.peer.addr) || length (buckets_of r) == MAX_LISTS then st
    else (
    let by_source = give_if_empty st r (new_bucket st.places r.peer r.source) st in
    if same then give_if_empty st r bucket by_source else by_source)

-- the same of a pair: a bucket, and the index of a new record, which is its number
abbrev pub place_pair : Bool → State → ℕ × ℕ → State
place_pair same st pair = place_record same st pair.0 (by_number st pair.1)

-- all pairs, one after another
abbrev pub place_all : Bool → State → List (ℕ × ℕ) → State
place_all same st [] = st
place_all same st (pair ∷ pairs) = place_all same (place_pair same st pair) pairs

-- a record that no bucket lists is deleted, and the last of the order takes its position
abbrev pub drop_record : State → Option Rec → State
drop_record st None = st
drop_record st (Some r) = if length (buckets_of r) == 0 then delete st r else st

-- for each number of a list, one after another
abbrev pub drop_all : State → List ℕ → State
drop_all st [] = st
drop_all st (number ∷ numbers) = drop_all (drop_record st (by_number st number)) numbers

-- The file's buckets are used if there are as many as in these tables, and the asmap is the same.
abbrev pub uses_buckets : Snapshot → Places → Bool
uses_buckets snap places = snap.bucket_count == NEW_BUCKETS && bytes_eq snap.sum (sum_of places)

-- the records of a file, the new ones first
abbrev pub with_records : Snapshot → Places → State
with_records snap places =
    with_all_tried (with_all_new (empty_state places) snap.new_recs) snap.tried_recs

-- What is restored of a file: its records are appended, those that its buckets list are placed in
-- the order of the list, and new records that are in no bucket then are deleted by rising number.
abbrev pub restored : Snapshot → Places → State
restored snap places =
    drop_all (place_all (uses_buckets snap places) (with_records snap places) snap.listed)
    (range_with_len 0 (length snap.new_recs))

-- the record is valid, and so is an earlier one of the same peer
abbrev pub is_repeated : List FileRec → FileRec → Bool
is_repeated earlier r =
    is_valid r.peer.addr && list_any (λ q. is_valid q.peer.addr && same_peer q.peer r.peer) earlier

-- the index of the first such record, where the first of the list has the index `index`
abbrev pub duplicate_from : List FileRec → ℕ → List FileRec → Option ℕ
duplicate_from earlier index [] = None
duplicate_from earlier index (r ∷ rs) =
    if is_repeated earlier r then Some index else duplicate_from (earlier ++ r ∷ []) (index + 1) rs

-- The index of the first valid record that has the peer of an earlier valid one. Records are
-- counted from 0, the new ones first.
abbrev pub duplicate : Snapshot → Option ℕ
duplicate snap = duplicate_from [] 0 (snap.new_recs ++ snap.tried_recs)
