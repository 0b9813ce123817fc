-- What a file of peers holds, and what a save writes of a state (`AddrManImpl::Serialize` in
-- addrman.cpp of Bitcoin Core).
use Rattle.std.specs.Prelude.{ℕ, not, ◌==◌, List, [], ◌∷◌, map, filter, flat_map, Option, Some, None}
use Rattle.std.specs.List.{range_with_len, position_or_len}
use Rattle.placing.specs.Places.{sum_of}
use Rattle.peer_rec.specs.Rec.{is_tried}
use Rattle.peer_rec.specs.declared.file_rec.FileRec.{FileRec}
use Rattle.peer_rec.specs.Snapshot.{Snapshot}
use Rattle.peer_rec.specs.declared.rec.Rec.{Rec}
use Rattle.slot_grid.specs.declared.sizes.TheConstants.{NEW_BUCKETS, SLOTS}
use Rattle.table_machine.specs.State.{State, new_rec_at}

-- what is kept of the record
abbrev pub file_rec : Rec → FileRec
file_rec r =
    record {
      peer = r.peer;
      source = r.source;
      time = r.time;
      services = r.services;
      last_success = r.last_success;
      attempts = r.attempts;
    }

-- the records of the new table, by rising number
abbrev pub new_records : State → List Rec
new_records st = filter (λ r. not (is_tried r)) st.records

-- and those of the tried table
abbrev pub tried_records : State → List Rec
tried_records st = filter is_tried st.records

-- the index of a record in a list
abbrev pub index_in : List Rec → Rec → ℕ
index_in records r = position_or_len (λ q. q.number == r.number) records

-- the bucket and the index of the record in one of its slots, nothing if the slot is empty
abbrev pub pair_of : State → ℕ → Option Rec → List (ℕ × ℕ)
pair_of st bucket None = []
pair_of st bucket (Some r) = (bucket, index_in (new_records st) r) ∷ []

-- at a slot
abbrev pub pair_at : State → ℕ → ℕ → List (ℕ × ℕ)
pair_at st bucket slot = pair_of st bucket (new_rec_at st bucket slot)

-- what the bucket lists, by rising slot
unfoldable pub listed_in : State → ℕ → List (ℕ × ℕ)
listed_in st bucket = flat_map (pair_at st bucket) (range_with_len 0 SLOTS)

-- what all buckets list, by rising bucket
unfoldable pub listed_of : State → List (ℕ × ℕ)
listed_of st = flat_map (listed_in st) (range_with_len 0 NEW_BUCKETS)

-- What a save writes. The records of the new table come first, and those of each table in the order
-- of their numbers.
abbrev pub snapshot_of : State → Snapshot
snapshot_of st = record {
  key = st.places.key;
  new_recs = map file_rec (new_records st);
  tried_recs = map file_rec (tried_records st);
  bucket_count = NEW_BUCKETS;
  listed = listed_of st;
  sum = sum_of st.places;
}
