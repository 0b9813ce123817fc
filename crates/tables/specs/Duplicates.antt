-- The peers of a file's records, in a set.
use Rattle.std.specs.Prelude.{◌≡◌, ◌≤◌, List, All, length, ◌&&◌}
use Rattle.std.specs.List.{list_any}
use Rattle.net_addr.specs.Ranges.{is_valid}
use Rattle.net_addr.specs.Same.{same_peer}
use Rattle.net_addr.specs.declared.peer.Peer.{Peer}
use Rattle.peer_rec.specs.declared.file_rec.FileRec.{FileRec}
use Rattle.peer_rec.specs.declared.snapshot.TheConstants.{MAX_NEW, MAX_TRIED}
use Rattle.peer_rec.specs.Snapshot.{IsFileRec, Snapshot}
use Rattle.peer_index.specs.Peers.{has_peer}

-- the set has the peers of the valid records, and no others
abbrev pub AreIn : List FileRec → List Peer → Type 0
AreIn earlier peers = (peer : Peer) →
    has_peer peers peer
    ≡ list_any (λ q. is_valid q.peer.addr && same_peer q.peer peer) earlier

-- the records of a file are few, and in the ranges of their fields
pub record AreFileRecs (snap : Snapshot) : Type 0 where
  pub few_new : length snap.new_recs ≤ MAX_NEW
  pub few_tried : length snap.tried_recs ≤ MAX_TRIED
  pub new_recs : All IsFileRec snap.new_recs
  pub tried_recs : All IsFileRec snap.tried_recs
