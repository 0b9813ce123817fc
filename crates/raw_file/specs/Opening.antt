-- The tables that the file of a listing opens.
use Rattle.std.specs.Prelude.{◌≡◌, ◌⊎◌, ℕ, Contains, None, true}
use Rattle.net_addr.specs.declared.peer.Peer.{Peer}
use Rattle.peer_rec.specs.Rec.{buckets_of}
use Rattle.peer_rec.specs.Snapshot.{Snapshot}
use Rattle.peer_rec.specs.declared.rec.Rec.{Rec}
use Rattle.placing.specs.Places.{Places, new_bucket, sum_of}
use Rattle.raw_read.specs.declared.raw.Raw.{Raw}
use Rattle.raw_read.specs.declared.raw.RawRow.{RawRow}
use Rattle.raw_file.specs.Listing.{snapshot_of}
use Rattle.table_laws.specs.Openings.{KeepsAtOpening}
use Rattle.table_machine.specs.Restoring.{duplicate, restored, uses_buckets}

-- the file of a listing, under the key and with the checksum of the places
abbrev pub listing_file : Raw → Places → Snapshot
listing_file raw places = snapshot_of places.key (sum_of places) raw

-- the listing has the peer in a slot of this bucket of the new table
abbrev pub ListsIn : Raw → ℕ → Peer → Type 0
ListsIn raw bucket peer =
    (row : RawRow) × Contains raw.new row × (row.bucket ≡ bucket) × (row.rec.peer ≡ peer)

-- With these places the file of the listing opens, since no two of its valid records have one peer.
-- Its buckets are used: each bucket of a record is one in which the listing has the peer, or else
-- that of the record's source. In it the record has the slot that the key gives (`is_new_at` of
-- table_machine). Each record of the listing is there, or others are in its slots.
pub record OpensListing (raw : Raw) (places : Places) : Type 0 where
  pub opens : duplicate (listing_file raw places) ≡ None
  pub used : uses_buckets (listing_file raw places) places ≡ true
  pub buckets : (q : Rec) → Contains (restored (listing_file raw places) places).records q
      → (bucket : ℕ) → Contains (buckets_of q) bucket
      → ListsIn raw bucket q.peer ⊎ (bucket ≡ new_bucket places q.peer q.source)
  pub kept : KeepsAtOpening (listing_file raw places) places
