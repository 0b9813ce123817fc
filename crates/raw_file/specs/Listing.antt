-- What a listing says, as a file of peers has it.
use Rattle.std.specs.Prelude.{ℕ, max, List, [], ◌∷◌, ◌++◌, Bool, not, ◌&&◌, ◌||◌, ◌==◌, false, map, fold, position, find, unwrap_or, Option, Some, None, if◌then◌else◌}
use Rattle.std.specs.List.{list_any}
use Rattle.net_addr.specs.Same.{same_address, same_peer}
use Rattle.net_addr.specs.declared.peer.Peer.{Peer}
use Rattle.peer_rec.specs.Snapshot.{Snapshot, snapshot}
use Rattle.peer_rec.specs.declared.file_rec.FileRec.{FileRec}
use Rattle.raw_read.specs.declared.raw.Raw.{Raw}
use Rattle.raw_read.specs.declared.raw.RawRow.{RawRow}
use Rattle.raw_read.specs.declared.raw.RawTable.{RawTable}
use Rattle.raw_read.specs.declared.raw.RawTable.TheVariants.{New, Tried}
use Rattle.raw_file.specs.declared.fault.ListingFault.{ListingFault}
use Rattle.raw_file.specs.declared.fault.ListingFault.TheVariants.{Again}
use Rattle.raw_file.specs.declared.peers.Spot.{Spot}
use Rattle.slot_grid.specs.declared.sizes.TheConstants.{NEW_BUCKETS}

-- THE SNAPSHOT

-- The records of some rows.
abbrev pub recs_of : List RawRow → List FileRec
recs_of rows = map (λ row. row.rec) rows

-- A tried record with a success, which a listing does not have: at the time of the record, or at 1,
-- since a node does not start over a file with a tried record whose last success is at 0
-- (`AddrManImpl::CheckAddrman`).
abbrev pub reached : FileRec → FileRec
reached r = record r { last_success = max r.time 1 }

-- The records of rows of the tried table
abbrev pub tried_of : List RawRow → List FileRec
tried_of rows = map (λ row. reached row.rec) rows

-- The peers of some records.
abbrev pub peers_of : List FileRec → List Peer
peers_of recs = map (λ r. r.peer) recs

-- the records with this one last, unless they have one of its peer
abbrev pub with_rec : List FileRec → FileRec → List FileRec
with_rec recs r = if list_any (same_peer r.peer) (peers_of recs) then recs else recs ++ r ∷ []

-- the first record of each peer
abbrev pub firsts : List FileRec → List FileRec
firsts recs = fold with_rec [] recs

-- the index of the peer's record
abbrev pub index_of : List FileRec → Peer → ℕ
index_of recs peer = unwrap_or (position (same_peer peer) (peers_of recs)) 0

-- a bucket, and the index of a record that it lists
abbrev pub pair_of : List FileRec → RawRow → ℕ × ℕ
pair_of recs row = (row.bucket, index_of recs row.rec.peer)

-- The records of the new table, each peer once.
abbrev pub new_recs : Raw → List FileRec
new_recs raw = firsts (recs_of raw.new)

-- The file's records are those of the rows: each peer of the new table once, and those of the tried
-- table with a success. Each bucket lists the records of its rows, in their order.
abbrev pub snapshot_of : List ℕ → List ℕ → Raw → Snapshot
snapshot_of key sum raw =
    snapshot key (new_recs raw) (tried_of raw.tried) NEW_BUCKETS
    (map (pair_of (new_recs raw)) raw.new) sum

-- A PEER THAT IS THERE AGAIN

-- The bucket and the peer of a row.
abbrev pub spot_of : RawRow → Spot
spot_of row = record { bucket = row.bucket; peer = row.rec.peer }

-- Two rows are of one bucket and one peer.
abbrev pub same_spot : Spot → Spot → Bool
same_spot a b = a.bucket == b.bucket && same_peer a.peer b.peer

-- two records say the same of their peer
abbrev pub says_same : FileRec → FileRec → Bool
says_same a b = same_address a.source b.source && a.time == b.time && a.services == b.services

-- A record says something else of its peer than the known one.
abbrev pub differs : FileRec → Option FileRec → Bool
differs r None = false
differs r (Some known) = not (says_same known r)

-- the peer's record, if there is one
abbrev pub known_rec : List FileRec → Peer → Option FileRec
known_rec recs peer = find (λ q. same_peer peer q.peer) recs

-- the peer is in an earlier row of the bucket, or an earlier row says something else of it
abbrev pub is_again : List RawRow → RawRow → Bool
is_again earlier row =
    list_any (same_spot (spot_of row)) (map spot_of earlier)
    || differs row.rec (known_rec (firsts (recs_of earlier)) row.rec.peer)

-- the first row of the new table whose peer is there again, after these
abbrev pub first_again : List RawRow → List RawRow → Option RawRow
first_again earlier [] = None
first_again earlier (row ∷ rows) =
    if is_again earlier row then Some row else first_again (earlier ++ row ∷ []) rows

-- the first row of the tried table whose peer is one of these or in an earlier row
abbrev pub first_twice : List Peer → List RawRow → Option RawRow
first_twice peers [] = None
first_twice peers (row ∷ rows) =
    if list_any (same_peer row.rec.peer) peers then Some row
    else first_twice (peers ++ row.rec.peer ∷ []) rows

-- The fault of a row whose peer is repeated, if there is such a row.
abbrev pub again_at : RawTable → Option RawRow → Option ListingFault
again_at table None = None
again_at table (Some row) = Some (Again table row.bucket row.position)

-- The first value, or another if there is none.
abbrev pub or_else : {A : Type 0} → Option A → Option A → Option A
or_else None other = other
or_else (Some a) other = Some a

-- the first slot whose peer is there again, the new table first
abbrev pub first_fault : Raw → Option ListingFault
first_fault raw =
    or_else (again_at New (first_again [] raw.new))
    (again_at Tried (first_twice (peers_of (new_recs raw)) raw.tried))
