-- What the difference of asmap.old and asmap.dat writes, and how it ends.
use Rattle.std.specs.Prelude.{◌≡◌, ℕ, ◌<◌, ◌≤◌, Bool, List, [], ◌++◌, length, Option, Some, None}
use Rattle.asmap_vm.specs.Asmap.{Asmap}
use Rattle.asmap_vm.specs.Code.{Tree}
use Rattle.host_io.specs.Outside.{Outside}
use Rattle.host_io.specs.Past.{Past}
use Rattle.host_io.specs.declared.name.Name.{Name}
use Rattle.host_io.specs.declared.name.Name.TheVariants as name
use Rattle.map_diff.specs.Diff.{AreChanges, Change, changed_prefixes, changes, first_over, if_differing, map_of}
use Rattle.map_diff.specs.Text.{difference_text}
use Rattle.peer_rec.specs.Snapshot.{Snapshot}
use Rattle.peers_file.specs.declared.chain.Chain.{Chain}
use Rattle.prefix_table.specs.declared.rows.TheConstants.{MAX_ROWS}
use Rattle.addrman_run.specs.Asmaps.{IsMapAt, RefusesAsmap, RefusesMapAt}
use Rattle.addrman_run.specs.GroupChanges.{group_changes_text}
use Rattle.addrman_run.specs.InFolder.{IsAbsent, ReportsAbsence}
use Rattle.addrman_run.specs.Peers.{IsSnapshotIn, RefusesPeers}
use Rattle.addrman_run.specs.TextOut.{TextEnds}
use Rattle.addrman_run.specs.declared.peers_fault.PeersFault.{PeersFault}
use Rattle.addrman_run.specs.declared.peers_fault.PeersFault.TheVariants.{File}
use Rattle.addrman_run.specs.declared.status.Status.{Status}
use Rattle.addrman_run.specs.declared.status.Status.TheVariants.{PeersRefused, AsmapRefused, NoFile, OldAsmapRefused, TooManyChanges}

-- the asmaps of asmap.old and asmap.dat
abbrev pub AreMapsIn : Option Past → Asmap → Asmap → Type 0
AreMapsIn past old new = IsMapAt name.AsmapOld past old × IsMapAt name.Asmap past new

-- The first change that covers an address has the two numbers that the trees give it, and none
-- covers one to which they give one number. No fewer changes do.
pub record TellsDifferences (old new : Tree) : Type 0 where
  pub exact : (bits : List Bool) → length bits ≡ 128
      → first_over (changes 128 (map_of old) (map_of new)) bits
      ≡ if_differing (map_of old bits) (map_of new bits)
  pub fewest : (others : List Change) → AreChanges 128 (map_of old) (map_of new) others
      → length (changes 128 (map_of old) (map_of new)) ≤ length others

-- the lines of the changes, no more than a table may have rows
pub record AreChangeLines (old new : Tree) (text : List ℕ) : Type 0 where
  pub tells : TellsDifferences old new
  pub few : length (changed_prefixes old new) ≤ MAX_ROWS
  pub is : text ≡ difference_text (changed_prefixes old new)

-- the lines about the records of peers.dat, a file of the chain; none without a chain
abbrev pub AreRecordLines : Option Chain → Asmap → Asmap → Option Past → List ℕ → Type 0
AreRecordLines None old new past text = text ≡ []
AreRecordLines (Some chain) old new past text =
    (snap : Snapshot) × IsSnapshotIn chain past snap × (text ≡ group_changes_text old new snap)

-- the text about the files of the folder
pub record IsDifference (peers : Option Chain) (past : Option Past) (text : List ℕ) : Type 0 where
  pub old : Asmap
  pub new : Asmap
  pub maps : AreMapsIn past old new
  pub rows : List ℕ
  pub has_rows : AreChangeLines old.tree new.tree rows
  pub records : List ℕ
  pub has_records : AreRecordLines peers old new past records
  pub whole : text ≡ rows ++ records

-- asmap.old is accepted
abbrev pub HasOldMap : Option Past → Type 0
HasOldMap past = (old : Asmap) × IsMapAt name.AsmapOld past old

-- both asmaps are accepted
abbrev pub HasMaps : Option Past → Type 0
HasMaps past = (old : Asmap) × (new : Asmap) × AreMapsIn past old new

-- records are asked for, of a file of some chain
abbrev pub AsksRecords : Option Chain → Type 0
AsksRecords peers = (chain : Chain) × (peers ≡ Some chain)

-- why peers.dat is refused; never since two records have the same peer
abbrev pub RefusesRecords : Option Chain → Option Past → PeersFault → Type 0
RefusesRecords peers past (File fault) =
    (chain : Chain) × (peers ≡ Some chain) × RefusesPeers chain past fault
RefusesRecords peers past other = ⊥

-- a file that is needed is absent
abbrev pub LacksFile : Option Chain → Option Past → Name → Type 0
LacksFile peers past name.AsmapOld = IsAbsent name.AsmapOld past
LacksFile peers past name.Asmap = HasOldMap past × IsAbsent name.Asmap past
LacksFile peers past name.Peers = HasMaps past × AsksRecords peers × IsAbsent name.Peers past
LacksFile peers past other = ⊥

-- The two asmaps have more changes than a table may have rows. There are lines about the records.
abbrev pub HaveTooMany : Option Chain → Option Past → Type 0
HaveTooMany peers past =
    (old : Asmap) × (new : Asmap) × AreMapsIn past old new
    × (MAX_ROWS < length (changed_prefixes old.tree new.tree))
    × ((records : List ℕ) × AreRecordLines peers old new past records)

-- A status that says why there is no text. Files are looked at in this order: asmap.old, asmap.dat,
-- peers.dat. Changes are counted after that.
abbrev pub ReportsDiff : Option Chain → Option Past → Status → Type 0
ReportsDiff peers past (OldAsmapRefused fault) = RefusesMapAt name.AsmapOld past fault
ReportsDiff peers past (AsmapRefused fault) = HasOldMap past × RefusesAsmap past fault
ReportsDiff peers past (PeersRefused fault) = HasMaps past × RefusesRecords peers past fault
ReportsDiff peers past (NoFile file) = LacksFile peers past file
ReportsDiff peers past TooManyChanges = HaveTooMany peers past
ReportsDiff peers past other = ⊥

-- How `diff` ends: it writes the changes between asmap.old and asmap.dat, or reports why not. No
-- log is read, and no file is changed. If asmap.old is absent, that is said.
pub record DiffEnds (peers : Option Chain) (old new : Outside) (status : Status) : Type 0 where
  pub ends : TextEnds (IsDifference peers) (ReportsDiff peers) old new status
  pub absent : ReportsAbsence name.AsmapOld old.past status
