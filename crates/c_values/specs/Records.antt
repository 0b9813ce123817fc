-- What the structs of records and peers mean, one and many.
use Rattle.std.specs.Prelude.{◌≡◌, ◌⊎◌, ℕ, ◌<◌, ◌≤◌, List, take, drop, length, slice_get, Some}
use Rattle.net_addr.specs.declared.peer.Peer.{Peer}
use Rattle.peer_rec.specs.Rec.{buckets_of}
use Rattle.peer_rec.specs.declared.rec.Rec.{Rec}
use Rattle.c_values.specs.declared.code.TheConstants.{OK, SHORT_BUFFER}
use Rattle.c_values.specs.declared.structs.AddrmanRecord.{AddrmanRecord}
use Rattle.c_values.specs.declared.values.AddrmanPeer.{AddrmanPeer}
use Rattle.c_values.specs.Values.{peer_in, address_in}

-- the struct has the fields of the record
pub record IsRecord (out : AddrmanRecord) (r : Rec) : Type 0 where
  pub number : out.number ≡ r.number
  pub services : out.services ≡ r.services
  pub peer : peer_in out.peer ≡ Some r.peer
  pub source : address_in out.source ≡ Some r.source
  pub time : out.time ≡ r.time
  pub last_success : out.last_success ≡ r.last_success
  pub last_try : out.last_try ≡ r.last_try
  pub last_counted : out.last_counted ≡ r.last_count
  pub attempts : out.attempts ≡ r.attempts
  pub bucket_count : out.bucket_count ≡ length (buckets_of r)
  pub buckets : take out.bucket_count out.buckets ≡ buckets_of r

-- the structs have the fields of the records, in the same order
abbrev pub AreRecords : List AddrmanRecord → List Rec → Type 0
AreRecords out recs = (length recs ≤ length out)
    × ((i : ℕ) (told : AddrmanRecord) (r : Rec) → slice_get out i ≡ Some told
    → slice_get recs i ≡ Some r → IsRecord told r)

-- records are written whole, and nothing after them; the output is as it was if it has less room
abbrev pub RecordsPut : List Rec → ℕ → List AddrmanRecord → List AddrmanRecord → ℕ → Type 0
RecordsPut recs code old new count =
    (count ≡ length recs)
    × (((length old < length recs) × (code ≡ SHORT_BUFFER) × (new ≡ old))
    ⊎ ((code ≡ OK) × AreRecords new recs × (drop (length recs) new ≡ drop (length recs) old)))

-- the structs have the fields of the peers, in the same order
abbrev pub ArePeers : List AddrmanPeer → List Peer → Type 0
ArePeers out peers = (length peers ≤ length out)
    × ((i : ℕ) (told : AddrmanPeer) (peer : Peer) → slice_get out i ≡ Some told
    → slice_get peers i ≡ Some peer → peer_in told ≡ Some peer)

-- peers are written whole, and nothing after them; the output is as it was if it has less room
abbrev pub PeersPut : List Peer → ℕ → List AddrmanPeer → List AddrmanPeer → ℕ → Type 0
PeersPut peers code old new count =
    (count ≡ length peers)
    × (((length old < length peers) × (code ≡ SHORT_BUFFER) × (new ≡ old))
    ⊎ ((code ≡ OK) × ArePeers new peers
    × (drop (length peers) new ≡ drop (length peers) old)))
