-- What a file of peers has, and what each of its records has. It is what `AddrManImpl::Serialize`
-- in addrman.cpp of Bitcoin Core writes.
use Rattle.std.specs.Prelude.{◌≡◌, ℕ, ◌<◌, ◌≤◌, ◌^◌, List, length, All, AllPairs}
use Rattle.net_addr.specs.Address.{IsAddress}
use Rattle.peer_rec.specs.declared.file_rec.FileRec.{FileRec}
use Rattle.peer_rec.specs.declared.file_rec.TheConstants.{MAX_ATTEMPTS}
use Rattle.peer_rec.specs.declared.snapshot.TheConstants.{MAX_NEW, MAX_TRIED, MAX_BUCKETS}

-- the key, the records, the buckets of the new table, pairs of a bucket and the index of a new
-- record that it lists, and the checksum of an asmap
pub record Snapshot : Type 0 where
  pub key : List ℕ
  pub new_recs : List FileRec
  pub tried_recs : List FileRec
  pub bucket_count : ℕ
  pub listed : List (ℕ × ℕ)
  pub sum : List ℕ

-- The snapshot with these parts.
abbrev pub snapshot : List ℕ → List FileRec → List FileRec → ℕ → List (ℕ × ℕ) → List ℕ → Snapshot
snapshot key new_recs tried_recs bucket_count listed sum = record {
  key = key;
  new_recs = new_recs;
  tried_recs = tried_recs;
  bucket_count = bucket_count;
  listed = listed;
  sum = sum;
}

-- what fits the fields of a record of a file
pub record IsFileRec (r : FileRec) : Type 0 where
  pub addr : IsAddress r.peer.addr
  pub port : r.peer.port < 2 ^ 16
  pub source : IsAddress r.source
  pub time : r.time < 2 ^ 32
  pub services : r.services < 2 ^ 64
  pub last_success : r.last_success < 2 ^ 32
  pub attempts : r.attempts ≤ MAX_ATTEMPTS

-- what holds of every snapshot
pub record IsSnapshot (snap : Snapshot) : Type 0 where
  pub key_length : length snap.key ≡ 32
  pub sum_length : length snap.sum ≡ 32
  pub few_new : length snap.new_recs ≤ MAX_NEW
  pub few_tried : length snap.tried_recs ≤ MAX_TRIED
  pub new_attempts : All (λ r. r.attempts ≤ MAX_ATTEMPTS) snap.new_recs
  pub tried_attempts : All (λ r. r.attempts ≤ MAX_ATTEMPTS) snap.tried_recs
  pub few_buckets : snap.bucket_count ≤ MAX_BUCKETS
  pub buckets : All (λ pair. pair.0 < snap.bucket_count) snap.listed
  pub indexes : All (λ pair. pair.1 < length snap.new_recs) snap.listed
  pub rising : AllPairs (λ pair later. pair.0 ≤ later.0) snap.listed
