-- Why a record is in a bucket of the new table, and which buckets the sources of some groups reach.
-- What a group reaches is the measure of Heilman, Kendler, Zohar and Goldberg, "Eclipse Attacks on
-- Bitcoin's Peer-to-Peer Network" (2015).
use Rattle.std.specs.Prelude.{◌≡◌, ◌⊎◌, ℕ, ◌*◌, List, [], ◌∷◌, length, flat_map, true, Contains, Option, Some, None}
use Rattle.slot_grid.specs.declared.sizes.TheConstants.{NEW_BUCKETS}
use Rattle.net_addr.specs.Address.{Address}
use Rattle.net_addr.specs.declared.peer.Peer.{Peer}
use Rattle.placing.specs.Places.{Places, group, group_buckets, new_bucket, source_buckets, sum_of, tried_bucket}
use Rattle.placing.specs.declared.placer.TheConstants.{GROUP_BUCKETS, SOURCE_BUCKETS}
use Rattle.peer_rec.specs.Rec.{buckets_of, is_tried}
use Rattle.peer_rec.specs.Snapshot.{Snapshot}
use Rattle.peer_rec.specs.declared.rec.Rec.{Rec}
use Rattle.table_machine.specs.Restoring.{with_records}
use Rattle.table_machine.specs.State.{State}

-- The file lists the bucket for the record of this number and peer: its buckets are as many as in
-- these tables, its asmap is the same by the checksum, it has such a record (the records of a file
-- are numbered in its order), and a listed pair has the bucket and this number.
abbrev pub IsListed : Option Snapshot → Places → ℕ → Peer → ℕ → Type 0
IsListed None places number peer bucket = ⊥
IsListed (Some snap) places number peer bucket =
    (snap.bucket_count ≡ NEW_BUCKETS) × (snap.sum ≡ sum_of places)
    × ((r : Rec) × Contains (with_records snap places).records r
    × (r.number ≡ number) × (r.peer ≡ peer))
    × Contains snap.listed (bucket, number)

-- Why the record of a number, a peer and a source of its own is in a bucket: an entry for the peer
-- was accepted, and the bucket is that of the peer and of the entry's source; it is that of the
-- peer and of the record's own source; or the file listed it.
pub data IsCaused (Accepted : Peer → Address → Type 0)
    (Listed : ℕ → Peer → ℕ → Type 0) (places : Places)
    (number : ℕ) (peer : Peer) (own : Address) (bucket : ℕ) : Type 0 where
  Told : (source : Address) → Accepted peer source → bucket ≡ new_bucket places peer source
      → IsCaused Accepted Listed places number peer own bucket
  Own : bucket ≡ new_bucket places peer own → IsCaused Accepted Listed places number peer own bucket
  InFile : Listed number peer bucket → IsCaused Accepted Listed places number peer own bucket

-- each bucket that a record is in has a cause
abbrev pub AreCaused : (Peer → Address → Type 0) → (ℕ → Peer → ℕ → Type 0) → State → Type 0
AreCaused Accepted Listed st =
    (r : Rec) → Contains st.records r → (bucket : ℕ) → Contains (buckets_of r) bucket
    → IsCaused Accepted Listed st.places r.number r.peer r.source bucket

-- the bucket is that of the record's peer and of a source of one of these groups, which announced
-- the peer or is the record's own
abbrev pub IsBy : (Peer → Address → Type 0) → Places → List (List ℕ) → Rec → ℕ → Type 0
IsBy Accepted places groups r bucket =
    (source : Address) × Contains groups (group places source)
    × (Accepted r.peer source ⊎ (source ≡ r.source))
    × (bucket ≡ new_bucket places r.peer source)

-- the buckets that sources of some groups reach: those of each group in turn
abbrev pub reach : Places → List (List ℕ) → List ℕ
reach places groups = flat_map (source_buckets places) groups

-- A bucket by a source is among those of the source's group. So sources of some groups, however
-- many they are and whatever other lines come between, have put records into `SOURCE_BUCKETS`
-- buckets a group at most. The tried records of one group are in `GROUP_BUCKETS` at most.
pub record IsBounded (Accepted : Peer → Address → Type 0) (st : State) : Type 0 where
  pub new_source : (r : Rec) → Contains st.records r → (bucket : ℕ)
      → Contains (buckets_of r) bucket → (source : Address)
      → IsBy Accepted st.places (group st.places source ∷ []) r bucket
      → Contains (source_buckets st.places (group st.places source)) bucket
  pub new_groups : (groups : List (List ℕ)) (r : Rec) → Contains st.records r → (bucket : ℕ)
      → Contains (buckets_of r) bucket
      → IsBy Accepted st.places groups r bucket → Contains (reach st.places groups) bucket
  pub new_count : (groups : List (List ℕ)) →
      length (reach st.places groups) ≡ SOURCE_BUCKETS * length groups
  pub tried_group : (r : Rec) → Contains st.records r → is_tried r ≡ true
      → Contains (group_buckets st.places (group st.places r.peer.addr))
      (tried_bucket st.places r.peer)
  pub tried_count : (peer_group : List ℕ) →
      length (group_buckets st.places peer_group) ≡ GROUP_BUCKETS
