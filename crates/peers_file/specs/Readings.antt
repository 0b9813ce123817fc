-- What reading a file from the start gives, field by field.
use Rattle.std.specs.Prelude.{◌≡◌, ◌≢◌, ℕ, ◌/◌, ◌^◌, List, ◌++◌, replicate, Result, Ok, Err, ◌&&◌, ◌==◌, nat_lt, nat_le, if◌then◌else◌}
use Rattle.std.specs.List.{flat_map}
use Rattle.std.specs.Int.{w16, w32, w64, cast_signed}
use Rattle.std.specs.Int.Bits.{bit_xor}
use Rattle.net_addr.specs.OldForm.{from_v1}
use Rattle.wire_num.specs.declared.fault.WireFault.{WireFault}
use Rattle.wire_num.specs.Readings.{then_at, value_at, check_at, times_at, map_fault_at, bytes_at, byte_at, le_at, be_at, compact_at}
use Rattle.addr_codecs.specs.Readings.{address_at}
use Rattle.peer_rec.specs.declared.file_rec.FileRec.{FileRec}
use Rattle.peer_rec.specs.declared.snapshot.TheConstants.{MAX_NEW, MAX_TRIED, MAX_BUCKETS}
use Rattle.peer_rec.specs.Snapshot.{Snapshot, snapshot}
use Rattle.peers_file.specs.Faults.{of_field, of_number, of_address}
use Rattle.peers_file.specs.Layout.{or_zero, file_rec, entries_of, pairs_with, head_with}
use Rattle.peers_file.specs.declared.head.Head.{Head}
use Rattle.peers_file.specs.declared.fault.Which.{Which}
use Rattle.peers_file.specs.declared.fault.Which.TheVariants as which
use Rattle.peers_file.specs.declared.fault.RecordCause.TheVariants as cause
use Rattle.peers_file.specs.declared.fault.FileFault.{FileFault}
use Rattle.peers_file.specs.declared.fault.FileFault.TheVariants.{Compat, Version, Count, Record, Buckets, Time, Attempts, Memory}

-- what reading some bytes gives: a value and the bytes after it, or the fault
abbrev pub Read : Type 0 → Type 0
Read A = List ℕ → Result (A × List ℕ) FileFault

-- A reading of wire_num as one of the file: its faults are those of a file.
abbrev pub field_at : {A : Type 0} → (List ℕ → Result (A × List ℕ) WireFault) → Read A
field_at r = map_fault_at of_field r

-- Reads the layout of a record: the version of the client that wrote it, of which only the high
-- bits count.
unfoldable pub layout_at : ℕ → ℕ → Read ℕ
layout_at i high =
    then_at (field_at (le_at w32)) (λ n. check_at (n / 2 ^ 19 == high) (Record i cause.Version) n)

-- Reads the last success of a record, a time below 2^32.
unfoldable pub success_at : ℕ → Read ℕ
success_at i = then_at (field_at (le_at w64)) (λ n. check_at (nat_lt n (2 ^ 32)) (Time i) n)

-- Reads the attempts of a record, a number below 2^31.
unfoldable pub attempts_at : ℕ → Read ℕ
attempts_at i = then_at (field_at (le_at w32)) (λ n. check_at (nat_lt n (2 ^ 31)) (Attempts i) n)

-- Reads a record of format 3 or 4, whose addresses have the form of BIP 155.
unfoldable pub record_at : ℕ → Read FileRec
record_at i =
    then_at (layout_at i (2 ^ 10)) (λ _.
    then_at (field_at (le_at w32)) (λ time.
    then_at (map_fault_at (of_number i) compact_at) (λ services.
    then_at (map_fault_at (of_address i) address_at) (λ peer.
    then_at (field_at (be_at w16)) (λ port.
    then_at (map_fault_at (of_address i) address_at) (λ source.
    then_at (success_at i) (λ success.
    then_at (attempts_at i) (λ attempts.
    value_at (file_rec (or_zero peer) port (or_zero source) time services success attempts)))))))))

-- Reads a record of format 1 or 2, whose addresses have sixteen bytes.
unfoldable pub old_record_at : ℕ → Read FileRec
old_record_at i =
    then_at (layout_at i 0) (λ _.
    then_at (field_at (le_at w32)) (λ time.
    then_at (field_at (le_at w64)) (λ services.
    then_at (field_at (bytes_at 16)) (λ peer.
    then_at (field_at (be_at w16)) (λ port.
    then_at (field_at (bytes_at 16)) (λ source.
    then_at (success_at i) (λ success.
    then_at (attempts_at i) (λ attempts.
    value_at (file_rec (from_v1 peer) port (from_v1 source) time services success attempts)))))))))

-- Reads a record of a format.
abbrev pub record_in_at : ℕ → ℕ → Read FileRec
record_in_at format i bytes = if nat_lt format 3 then old_record_at i bytes else record_at i bytes

-- Reads the number of records of a table, up to a limit.
unfoldable pub count_at : Which → ℕ → Read ℕ
count_at kind limit =
    then_at (field_at (le_at w32))
    (λ n. check_at (nat_le n limit) (Count kind (cast_signed w32 n)) n)

-- Reads the number of buckets, which is stored with bit 30 flipped.
unfoldable pub buckets_at : Read ℕ
buckets_at =
    then_at (field_at (le_at w32)) (λ coded.
    check_at (nat_le (bit_xor coded (2 ^ 30)) MAX_BUCKETS)
    (Buckets (cast_signed w32 (bit_xor coded (2 ^ 30)))) (bit_xor coded (2 ^ 30)))

-- Reads a bucket: the number of its records and their indexes.
unfoldable pub bucket_at : ℕ → ℕ → Read (List (ℕ × ℕ))
bucket_at new_count bucket =
    then_at (field_at (le_at w32)) (λ entries.
    then_at (times_at 0 (entries_of entries) (λ _. field_at (le_at w32))) (λ indexes.
    value_at (pairs_with new_count bucket indexes)))

-- Reads the checksum of the asmap, which is 32 zeros in format 1.
abbrev pub sum_in_at : ℕ → Read (List ℕ)
sum_in_at format bytes =
    if format == 1 then value_at (replicate 32 0) bytes else field_at (bytes_at 32) bytes

-- Reads the head of the file: format, lowest compatible format, key, counts, and number of buckets.
unfoldable pub head_at : Read Head
head_at =
    then_at (field_at byte_at) (λ format.
    then_at (field_at byte_at) (λ compat.
    then_at (check_at (nat_le 32 compat && nat_le compat 36) (Compat compat) compat) (λ _.
    then_at (check_at (nat_le 1 format && nat_le format 4) (Version format) format) (λ _.
    then_at (field_at (bytes_at 32)) (λ key.
    then_at (count_at which.New MAX_NEW) (λ new_count.
    then_at (count_at which.Tried MAX_TRIED) (λ tried_count.
    then_at buckets_at (λ bucket_count.
    value_at (head_with format key new_count tried_count bucket_count)))))))))

-- Reads all buckets, one after another.
unfoldable pub all_buckets_at : ℕ → ℕ → Read (List (ℕ × ℕ))
all_buckets_at new_count bucket_count =
    then_at (times_at 0 bucket_count (bucket_at new_count))
    (λ listed. value_at (flat_map (λ pairs. pairs) listed))

-- Reads what is between the magic and the checksum of the file.
unfoldable pub body_at : Read Snapshot
body_at =
    then_at head_at (λ h.
    then_at (times_at 0 h.new_count (record_in_at h.format)) (λ new_recs.
    then_at (times_at h.new_count h.tried_count (record_in_at h.format)) (λ tried_recs.
    then_at (all_buckets_at h.new_count h.bucket_count) (λ listed.
    then_at (sum_in_at h.format) (λ sum.
    value_at (snapshot h.key new_recs tried_recs h.bucket_count listed sum))))))

-- The view of an answer is what the reading gives, unless memory ran out.
abbrev pub GivesUnlessMemory : {X Y : Type 0} → (X → Y) → Result X FileFault
    → Result Y FileFault → Type 0
GivesUnlessMemory view (Ok x) read = read ≡ Ok (view x)
GivesUnlessMemory view (Err e) read = e ≢ Memory → read ≡ Err e

-- The list is longer by what the reading gives, and the view of the answer is the rest of the
-- bytes, unless memory ran out.
abbrev pub AppendsUnlessMemory : {X Y : Type 0} → (X → List ℕ) → List Y → List Y
    → Result X FileFault → Result (List Y × List ℕ) FileFault → Type 0
AppendsUnlessMemory {Y = Y} view old new (Ok x) read =
    (more : List Y) × (new ≡ old ++ more) × (read ≡ Ok (more, view x))
AppendsUnlessMemory view old new (Err e) read = e ≢ Memory → read ≡ Err e
