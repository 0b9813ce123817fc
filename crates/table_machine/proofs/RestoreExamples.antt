-- Worked examples of a restart, each computed; the expected values are an independent program's.
use Rattle.std.specs.Prelude.{◌≡◌, ℕ, List, [], ◌∷◌, map, replicate, Option, Some, None, refl}
use Rattle.sha2.specs.Sha256.{sha256, digest_bytes, hash_after, compress, rounds, schedule, first_words}
use Rattle.wire_num.specs.CompactSize.{compact_size}
use Rattle.net_addr.specs.OldForm.{address}
use Rattle.net_addr.specs.Ranges.{in_range}
use Rattle.net_addr.specs.Same.{same_address}
use Rattle.net_addr.specs.declared.net.Net.TheVariants.{Ipv4}
use Rattle.placing.specs.Places.{double_sha256, cheap_hash, new_bucket, new_slot, tried_bucket, tried_slot}
use Rattle.peer_rec.specs.declared.rec.Rec.{Rec}
use Rattle.peer_rec.specs.declared.place.Place.{Place}
use Rattle.peer_rec.specs.declared.place.Place.TheVariants.{New, Tried}
use Rattle.table_machine.specs.State.{State}
use Rattle.table_machine.proofs.ExampleStates.{other, peer, rec, state, zeros}
use Rattle.peer_rec.specs.declared.file_rec.FileRec.{FileRec}
use Rattle.peer_rec.specs.Snapshot.{Snapshot}
use Rattle.table_machine.specs.Snapshot.{listed_in, listed_of, snapshot_of}
use Rattle.table_machine.specs.Restoring.{duplicate, restored}
use Rattle.table_machine.specs.Restart.{restart}

abbrev file : ℕ → FileRec
file port = record { peer = peer port; source = other; time = 1700000000; services = 1; last_success = 5; attempts = 2 }

abbrev invalid : ℕ → FileRec
invalid port = record (file port) { peer = record { addr = address Ipv4 (replicate 4 0); port = port } }

abbrev zeros32 : List ℕ
zeros32 = replicate 32 0

abbrev ones : List ℕ
ones = 1 ∷ replicate 31 0

abbrev file_of : List FileRec → List FileRec → ℕ → List (ℕ × ℕ) → List ℕ → Snapshot
file_of new_recs tried_recs bucket_count listed sum = record {
  key = replicate 32 0;
  new_recs = new_recs;
  tried_recs = tried_recs;
  bucket_count = bucket_count;
  listed = listed;
  sum = sum;
}

abbrev buckets_or_tried : Place → Option (List ℕ)
buckets_or_tried (New buckets) = Some buckets
buckets_or_tried Tried = None

abbrev line : Rec → ℕ × Option (List ℕ)
line r = (r.number, buckets_or_tried r.place)

abbrev summary : State → List (ℕ × Option (List ℕ)) × List ℕ × ℕ
summary st = (map line st.records, st.order, st.next_number)

row_of_the_stored_run : summary (restored (file_of (file 8333 ∷ []) [] 1024 ((87, 0) ∷ []) zeros32) zeros) ≡ ((0, Some (87 ∷ [])) ∷ [], 0 ∷ [], 1)
unfolding new_bucket new_slot tried_bucket tried_slot in_range compact_size cheap_hash double_sha256 sha256 digest_bytes hash_after compress rounds schedule first_words
row_of_the_stored_run = refl

another_checksum : summary (restored (file_of (file 8333 ∷ []) [] 1024 ((500, 0) ∷ []) ones) zeros) ≡ ((0, Some (87 ∷ [])) ∷ [], 0 ∷ [], 1)
unfolding new_bucket new_slot tried_bucket tried_slot in_range compact_size cheap_hash double_sha256 sha256 digest_bytes hash_after compress rounds schedule first_words
another_checksum = refl

another_bucket_count : summary (restored (file_of (file 8333 ∷ []) [] 512 ((500, 0) ∷ []) zeros32) zeros) ≡ ((0, Some (87 ∷ [])) ∷ [], 0 ∷ [], 1)
unfolding new_bucket new_slot tried_bucket tried_slot in_range compact_size cheap_hash double_sha256 sha256 digest_bytes hash_after compress rounds schedule first_words
another_bucket_count = refl

invalid_record : summary (restored (file_of (invalid 1 ∷ file 8333 ∷ []) [] 1024 ((3, 0) ∷ (87, 1) ∷ []) zeros32) zeros) ≡ ((1, Some (87 ∷ [])) ∷ [], 1 ∷ [], 2)
unfolding new_bucket new_slot tried_bucket tried_slot in_range compact_size cheap_hash double_sha256 sha256 digest_bytes hash_after compress rounds schedule first_words
invalid_record = refl

lost_tried : summary (restored (file_of [] (file 8333 ∷ file 873 ∷ invalid 1 ∷ file 22 ∷ []) 1024 [] zeros32) zeros) ≡ ((0, None) ∷ (1, None) ∷ [], 0 ∷ 1 ∷ [], 2)
unfolding new_bucket new_slot tried_bucket tried_slot in_range compact_size cheap_hash double_sha256 sha256 digest_bytes hash_after compress rounds schedule first_words
lost_tried = refl

pair_listed_twice : summary (restored (file_of (file 8333 ∷ []) [] 1024 ((5, 0) ∷ (5, 0) ∷ []) zeros32) zeros) ≡ ((0, Some (5 ∷ 87 ∷ [])) ∷ [], 0 ∷ [], 1)
unfolding new_bucket new_slot tried_bucket tried_slot in_range compact_size cheap_hash double_sha256 sha256 digest_bytes hash_after compress rounds schedule first_words
pair_listed_twice = refl

eight_buckets : summary (restored (file_of (file 8333 ∷ []) [] 1024 ((3, 0) ∷ (9, 0) ∷ (10, 0) ∷ (200, 0) ∷ (300, 0) ∷ (301, 0) ∷ (302, 0) ∷ (303, 0) ∷ (304, 0) ∷ []) zeros32) zeros) ≡ ((0, Some (3 ∷ 9 ∷ 10 ∷ 200 ∷ 300 ∷ 301 ∷ 302 ∷ 303 ∷ [])) ∷ [], 0 ∷ [], 1)
unfolding new_bucket new_slot tried_bucket tried_slot in_range compact_size cheap_hash double_sha256 sha256 digest_bytes hash_after compress rounds schedule first_words
eight_buckets = refl

slot_taken : summary (restored (file_of (file 8333 ∷ file 22 ∷ []) [] 1024 ((87, 0) ∷ (87, 1) ∷ []) zeros32) zeros) ≡ ((0, Some (87 ∷ [])) ∷ [], 0 ∷ [], 2)
unfolding new_bucket new_slot tried_bucket tried_slot in_range compact_size cheap_hash double_sha256 sha256 digest_bytes hash_after compress rounds schedule first_words
slot_taken = refl

slot_taken_by_one_without_its_own : summary (restored (file_of (file 8333 ∷ file 22 ∷ []) [] 1024 ((87, 1) ∷ (87, 0) ∷ []) zeros32) zeros) ≡ ((1, Some (87 ∷ [])) ∷ [], 1 ∷ [], 2)
unfolding new_bucket new_slot tried_bucket tried_slot in_range compact_size cheap_hash double_sha256 sha256 digest_bytes hash_after compress rounds schedule first_words
slot_taken_by_one_without_its_own = refl

order_closed_up : summary (restored (file_of (file 1 ∷ file 2 ∷ file 3 ∷ file 4 ∷ []) (file 8333 ∷ []) 1024 ((40, 2) ∷ (41, 3) ∷ []) zeros32) zeros) ≡ ((2, Some (40 ∷ [])) ∷ (3, Some (41 ∷ [])) ∷ (4, None) ∷ [], 4 ∷ 3 ∷ 2 ∷ [], 5)
unfolding new_bucket new_slot tried_bucket tried_slot in_range compact_size cheap_hash double_sha256 sha256 digest_bytes hash_after compress rounds schedule first_words
order_closed_up = refl

-- what a save writes of a state with two new records and a tried one
abbrev some_records : State
some_records = state (rec 3 8333 (New (5 ∷ 87 ∷ [])) ∷ rec 4 1 Tried ∷ rec 7 22 (New (9 ∷ [])) ∷ []) (7 ∷ 3 ∷ 4 ∷ []) [] 9

listed_there : listed_of some_records ≡ (5, 0) ∷ (9, 1) ∷ (87, 0) ∷ []
unfolding listed_in listed_of new_slot compact_size cheap_hash double_sha256 sha256 digest_bytes hash_after compress rounds schedule first_words
listed_there = refl

there_again : restored (snapshot_of some_records) zeros ≡ restart some_records
unfolding listed_in listed_of new_bucket new_slot tried_bucket tried_slot in_range compact_size cheap_hash double_sha256 sha256 digest_bytes hash_after compress rounds schedule first_words
there_again = refl

after_it : summary (restart some_records) ≡ ((0, Some (5 ∷ 87 ∷ [])) ∷ (1, Some (9 ∷ [])) ∷ (2, None) ∷ [], 0 ∷ 1 ∷ 2 ∷ [], 3)
after_it = refl

-- A valid peer twice is refused, also where one of the two would be lost; an invalid one is not.
repeated : duplicate (file_of (file 22 ∷ file 8333 ∷ []) (file 1 ∷ file 8333 ∷ []) 1024 [] zeros32) ≡ Some 3
unfolding in_range same_address
repeated = refl

invalid_twice : duplicate (file_of (invalid 22 ∷ invalid 22 ∷ []) (invalid 22 ∷ []) 1024 [] zeros32) ≡ None
unfolding in_range same_address
invalid_twice = refl
