-- What a listing of peers.dat writes, several lines as one text, and how it ends.
use Rattle.std.specs.Prelude.{◌≡◌, ℕ, Bool, List, Option}
use Rattle.host_io.specs.Past.{Past}
use Rattle.host_io.specs.Outside.{Outside}
use Rattle.host_io.specs.declared.name.Name.TheVariants as name
use Rattle.peer_rec.specs.Snapshot.{Snapshot}
use Rattle.peers_file.specs.declared.chain.Chain.{Chain}
use Rattle.peers_file.specs.Listing.{snapshot_text}
use Rattle.addrman_run.specs.FileLine.{FileLineEnds}
use Rattle.addrman_run.specs.Peers.{IsSnapshotIn, RefusesPeers}
use Rattle.addrman_run.specs.declared.peers_fault.PeersFault.TheVariants.{File}
use Rattle.addrman_run.specs.declared.status.Status.{Status}
use Rattle.addrman_run.specs.declared.status.Status.TheVariants.{PeersRefused}

-- the lines about the folder's peers.dat, with the key or without it
abbrev pub IsShowText : Bool → Chain → Option Past → List ℕ → Type 0
IsShowText keyed chain past text =
    (snap : Snapshot) × IsSnapshotIn chain past snap × (text ≡ snapshot_text keyed snap)

-- a status that says that peers.dat is refused, with the reason; never that two records have the
-- same peer
abbrev pub ReportsPeers : Chain → Option Past → Status → Type 0
ReportsPeers chain past (PeersRefused (File fault)) = RefusesPeers chain past fault
ReportsPeers chain past other = ⊥

-- How `show` ends: it writes the listing of peers.dat, or reports that it is absent or why it is
-- refused. Nothing in the folder changes.
abbrev pub ShowEnds : Bool → Chain → Outside → Outside → Status → Type 0
ShowEnds keyed chain = FileLineEnds name.Peers (IsShowText keyed chain) (ReportsPeers chain)
