-- What a snapshot has whose file is written, and parts of the file.
use Rattle.std.specs.Prelude.{◌≡◌, ℕ, ◌*◌, ◌≤◌, ◌^◌, List, ◌++◌, length, All}
use Rattle.std.specs.List.{flat_map}
use Rattle.std.specs.Int.{w16, w32, w64, to_le_bytes, to_be_bytes}
use Rattle.std.specs.Int.Bits.{bit_xor}
use Rattle.wire_num.specs.CompactSize.{compact_size}
use Rattle.addr_codecs.specs.Texts.{address_text}
use Rattle.peer_rec.specs.declared.file_rec.FileRec.{FileRec}
use Rattle.peer_rec.specs.Snapshot.{Snapshot, IsSnapshot, IsFileRec}
use Rattle.slot_grid.specs.declared.sizes.TheConstants.{NEW_BUCKETS, SLOTS}

-- the snapshot is one of the tables, and each field of its records fits
pub record IsWritten (snap : Snapshot) : Type 0 where
  pub snapshot : IsSnapshot snap
  pub new_recs : All IsFileRec snap.new_recs
  pub tried_recs : All IsFileRec snap.tried_recs
  pub buckets : snap.bucket_count ≡ NEW_BUCKETS
  pub few_listed : length snap.listed ≤ NEW_BUCKETS * SLOTS

-- The bytes of a record before its peer: layout, time and services.
unfoldable pub front_text : FileRec → List ℕ
front_text r = to_le_bytes w32 0x20035b60 ++ to_le_bytes w32 r.time ++ compact_size r.services

-- The bytes of a record's peer and source.
unfoldable pub who_text : FileRec → List ℕ
who_text r = address_text r.peer.addr ++ to_be_bytes w16 r.peer.port ++ address_text r.source

-- The bytes of a record after its source: last success and attempts.
unfoldable pub marks_text : FileRec → List ℕ
marks_text r = to_le_bytes w64 r.last_success ++ to_le_bytes w32 r.attempts

-- the numbers of new records, of tried ones and of buckets
unfoldable pub counts_text : Snapshot → List ℕ
counts_text snap =
    to_le_bytes w32 (length snap.new_recs) ++ to_le_bytes w32 (length snap.tried_recs)
    ++ to_le_bytes w32 (bit_xor snap.bucket_count (2 ^ 30))

-- the pairs of a bucket: their number, and the index in each
unfoldable pub pairs_text : List (ℕ × ℕ) → List ℕ
pairs_text pairs = to_le_bytes w32 (length pairs) ++ flat_map (λ pair. to_le_bytes w32 pair.1) pairs
