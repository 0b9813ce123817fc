-- What a listing of anchors writes, and how it ends. The file is in the place of peers.dat: the
-- program puts the folder's anchors.dat there, or the file that its arguments name.
use Rattle.std.specs.Prelude.{◌≡◌, ◌≢◌, ℕ, List, Option}
use Rattle.anchors.specs.Layout.{HasFileFault, IsFile}
use Rattle.anchors.specs.Listing.{anchors_text}
use Rattle.anchors.specs.declared.fault.AnchorsFault.{AnchorsFault}
use Rattle.anchors.specs.declared.fault.AnchorsFault.TheVariants.{Memory}
use Rattle.host_io.specs.Outside.{Outside}
use Rattle.host_io.specs.Past.{Past}
use Rattle.host_io.specs.declared.name.Name.TheVariants as name
use Rattle.net_addr.specs.declared.peer.Entry.{Entry}
use Rattle.peers_file.specs.Layout.{magic_of}
use Rattle.peers_file.specs.declared.chain.Chain.{Chain}
use Rattle.addrman_run.specs.FileLine.{FileLineEnds}
use Rattle.addrman_run.specs.InFolder.{HasBytes}
use Rattle.addrman_run.specs.declared.status.Status.{Status}
use Rattle.addrman_run.specs.declared.status.Status.TheVariants.{AnchorsRefused}

-- the lines about the anchors in the file, one of the chain
abbrev pub IsAnchorsText : Chain → Option Past → List ℕ → Type 0
IsAnchorsText chain past text =
    (bytes : List ℕ) × (anchors : List Entry) × HasBytes name.Peers past bytes
    × IsFile (magic_of chain) bytes anchors × (text ≡ anchors_text anchors)

-- why the file is refused: its first fault as a file of the chain; too many bytes are one, too
abbrev pub RefusesAnchors : Chain → Option Past → AnchorsFault → Type 0
RefusesAnchors chain past fault =
    (fault ≢ Memory) × ((bytes : List ℕ) × HasBytes name.Peers past bytes
    × HasFileFault (magic_of chain) bytes fault)

-- a status that says that the file is refused, with the reason
abbrev pub ReportsAnchors : Chain → Option Past → Status → Type 0
ReportsAnchors chain past (AnchorsRefused fault) = RefusesAnchors chain past fault
ReportsAnchors chain past other = ⊥

-- How `show --anchors` ends: it writes the listing of the file of anchors, or reports that the file
-- is absent or why it is refused. Nothing in the folder changes.
abbrev pub AnchorsEnds : Chain → Outside → Outside → Status → Type 0
AnchorsEnds chain = FileLineEnds name.Peers (IsAnchorsText chain) (ReportsAnchors chain)
