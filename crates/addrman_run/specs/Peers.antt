-- The folder's peers.dat.
use Rattle.std.specs.Prelude.{◌≢◌, ℕ, List, Option}
use Rattle.host_io.specs.Past.{Past}
use Rattle.host_io.specs.declared.name.Name.TheVariants as name
use Rattle.peer_rec.specs.Snapshot.{Snapshot}
use Rattle.peers_file.specs.Layout.{IsFile, HasFileFault}
use Rattle.peers_file.specs.declared.chain.Chain.{Chain}
use Rattle.peers_file.specs.declared.fault.FileFault.{FileFault}
use Rattle.peers_file.specs.declared.fault.FileFault.TheVariants.{Memory}
use Rattle.addrman_run.specs.InFolder.{HasBytes}

-- the snapshot in the folder's peers.dat, a file of the chain
abbrev pub IsSnapshotIn : Chain → Option Past → Snapshot → Type 0
IsSnapshotIn chain past snap =
    (bytes : List ℕ) × HasBytes name.Peers past bytes × IsFile chain bytes snap

-- why peers.dat is refused: its first fault as a file of the chain; too many bytes are one, too
abbrev pub RefusesPeers : Chain → Option Past → FileFault → Type 0
RefusesPeers chain past fault =
    (fault ≢ Memory)
    × ((bytes : List ℕ) × HasBytes name.Peers past bytes × HasFileFault chain bytes fault)
