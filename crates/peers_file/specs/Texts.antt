-- How peers.dat is written, in format 4: each number and each length in the fewest bytes that it
-- fits. `AddrManImpl::Serialize` in addrman.cpp of Bitcoin Core writes the same.
use Rattle.std.specs.Prelude.{ℕ, ◌^◌, List, [], ◌∷◌, ◌++◌, length, map, filter, ◌==◌}
use Rattle.std.specs.List.{flat_map, range_with_len}
use Rattle.std.specs.Int.{w16, w32, w64, to_le_bytes, to_be_bytes}
use Rattle.std.specs.Int.Bits.{bit_xor}
use Rattle.wire_num.specs.CompactSize.{compact_size}
use Rattle.addr_codecs.specs.Texts.{address_text}
use Rattle.placing.specs.Places.{double_sha256}
use Rattle.peer_rec.specs.declared.file_rec.FileRec.{FileRec}
use Rattle.peer_rec.specs.Snapshot.{Snapshot}
use Rattle.peers_file.specs.declared.chain.Chain.{Chain}
use Rattle.peers_file.specs.Layout.{magic_of}

-- a record
unfoldable pub record_text : FileRec → List ℕ
record_text r =
    to_le_bytes w32 0x20035b60 ++ (to_le_bytes w32 r.time ++ (compact_size r.services
    ++ (address_text r.peer.addr ++ (to_be_bytes w16 r.peer.port
    ++ (address_text r.source ++ (to_le_bytes w64 r.last_success ++ to_le_bytes w32 r.attempts))))))

-- the indexes that a bucket lists
abbrev pub indexes_of : List (ℕ × ℕ) → ℕ → List ℕ
indexes_of listed bucket = map (λ pair. pair.1) (filter (λ pair. pair.0 == bucket) listed)

-- a bucket
unfoldable pub bucket_text : List (ℕ × ℕ) → ℕ → List ℕ
bucket_text listed bucket =
    to_le_bytes w32 (length (indexes_of listed bucket))
    ++ flat_map (to_le_bytes w32) (indexes_of listed bucket)

-- the format and what it asks of its readers, the key, and the counts
unfoldable pub head_text : Snapshot → List ℕ
head_text snap =
    (4 ∷ 36 ∷ []) ++ (snap.key ++ (to_le_bytes w32 (length snap.new_recs)
    ++ (to_le_bytes w32 (length snap.tried_recs)
    ++ to_le_bytes w32 (bit_xor snap.bucket_count (2 ^ 30)))))

-- what is between the magic and the sum of the file
unfoldable pub body_text : Snapshot → List ℕ
body_text snap =
    head_text snap ++ (flat_map record_text snap.new_recs ++ (flat_map record_text snap.tried_recs
    ++ (flat_map (bucket_text snap.listed) (range_with_len 0 snap.bucket_count) ++ snap.sum)))

-- the file: the magic, the body, and the sum of both
unfoldable pub file_text : Chain → Snapshot → List ℕ
file_text chain snap =
    let before_sum = magic_of chain ++ body_text snap in before_sum ++ double_sha256 before_sum
