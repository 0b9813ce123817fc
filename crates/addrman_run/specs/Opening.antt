-- How a replay opens the tables: from the folder's peers.dat, or empty under the key of its
-- arguments.
use Rattle.std.specs.Prelude.{◌≡◌, ◌⊎◌, ℕ, List, Option, Some, None, ⊤}
use Rattle.host_io.specs.Past.{Past}
use Rattle.host_io.specs.declared.name.Name.TheVariants as name
use Rattle.asmap_vm.specs.Asmap.{Asmap}
use Rattle.placing.specs.Places.{Places}
use Rattle.placing.specs.declared.sum.SumRule.{SumRule}
use Rattle.peer_rec.specs.Snapshot.{Snapshot}
use Rattle.table_machine.specs.State.{State, empty_state}
use Rattle.table_machine.specs.Restoring.{restored, duplicate}
use Rattle.table_machine.specs.Sound.{IsSound}
use Rattle.peers_file.specs.declared.chain.Chain.{Chain}
use Rattle.arguments.specs.declared.file_kind.FileKind.{FileKind}
use Rattle.addrman_run.specs.Asmaps.{IsMapIn, RefusesAsmap}
use Rattle.addrman_run.specs.InFolder.{IsAbsent}
use Rattle.addrman_run.specs.Peers.{IsSnapshotIn, RefusesPeers}
use Rattle.addrman_run.specs.declared.peers_fault.PeersFault.{PeersFault}
use Rattle.addrman_run.specs.declared.peers_fault.PeersFault.TheVariants.{File, Duplicate}
use Rattle.addrman_run.specs.declared.status.Status.{Status}
use Rattle.addrman_run.specs.declared.status.Status.TheVariants as status

-- what buckets and slots depend on, under a key and the folder's asmap, and what that asmap's
-- checksum in the file is taken of
abbrev pub places_of : SumRule → List ℕ → Option Asmap → Places
places_of rule key map = record { key = key; map = map; rule = rule }

-- the tables of a file, under its own key
abbrev pub tables_of : SumRule → Snapshot → Option Asmap → State
tables_of rule snap map = restored snap (places_of rule snap.key map)

-- The tables that a replay begins with: those of the folder's peers.dat, no two valid records of
-- which have one peer, or if there is no such file, empty ones under the key of the arguments.
pub data Opens (key : Option (List ℕ)) (kind : FileKind) (past : Option Past)
    (map : Option Asmap) (st : State) : Type 0 where
  from_file : (snap : Snapshot) → IsSnapshotIn kind.chain past snap → duplicate snap ≡ None →
      st ≡ tables_of kind.rule snap map → Opens key kind past map st
  from_key : (given : List ℕ) → IsAbsent name.Peers past → key ≡ Some given →
      st ≡ empty_state (places_of kind.rule given map) → Opens key kind past map st

-- the snapshot of the file that the tables were opened from, none for empty ones
abbrev pub file_in : {key : Option (List ℕ)} {kind : FileKind} {past : Option Past}
    {map : Option Asmap} {st : State} → Opens key kind past map st → Option Snapshot
file_in (from_file snap is_in no_duplicate is) = Some snap
file_in (from_key given absent is_key is) = None

-- The folder opened with these tables: its asmap is accepted, and they have it. They are sound.
pub record Opened (key : Option (List ℕ)) (kind : FileKind) (past : Option Past)
    (tables : State) : Type 0 where
  pub map : Option Asmap
  pub has_map : IsMapIn past map
  pub opens : Opens key kind past map tables
  pub sound : IsSound tables

-- why the folder's peers.dat does not open the tables: its first fault as a file, or the first of
-- its valid records that has the peer of an earlier one
abbrev pub RefusesTables : Chain → Option Past → PeersFault → Type 0
RefusesTables chain past (File fault) = RefusesPeers chain past fault
RefusesTables chain past (Duplicate index) =
    (snap : Snapshot) × IsSnapshotIn chain past snap × (duplicate snap ≡ Some index)

-- there is neither a file nor a key
abbrev pub LacksKey : Option (List ℕ) → Option Past → Type 0
LacksKey key past = (key ≡ None) × IsAbsent name.Peers past

-- the folder's asmap is accepted
abbrev pub HasMap : Option Past → Type 0
HasMap past = (map : Option Asmap) × IsMapIn past map

-- A status that says why no tables are opened. Files are looked at in this order: asmap.dat,
-- peers.dat.
abbrev pub ReportsOpening : Option (List ℕ) → Chain → Option Past → Status → Type 0
ReportsOpening key chain past (status.AsmapRefused fault) = RefusesAsmap past fault
ReportsOpening key chain past (status.PeersRefused fault) =
    HasMap past × RefusesTables chain past fault
ReportsOpening key chain past status.NoKey = HasMap past × LacksKey key past
ReportsOpening key chain past other = ⊥

-- A status that says why the tables of peers.dat are not opened, in the same order.
abbrev pub ReportsTables : Chain → Option Past → Status → Type 0
ReportsTables chain past (status.NoFile file) =
    (file ≡ name.Peers) × HasMap past × IsAbsent name.Peers past
ReportsTables chain past status.NoKey = ⊥
ReportsTables chain past other = ReportsOpening None chain past other

-- Why no tables are opened, by the status. HasCause says why the folder fails.
abbrev pub IsUnopened : Option (List ℕ) → Chain → Option Past → Status → Type 0
IsUnopened key chain past status.DiskFault = ⊤
IsUnopened key chain past status.Memory = ⊤
IsUnopened key chain past other = ReportsOpening key chain past other

-- A folder opens in one way: with some tables, or not, since its peers.dat is refused or a key is
-- missing.
pub record OpensOnce (key : Option (List ℕ)) (kind : FileKind) (past : Option Past)
    (map : Option Asmap) : Type 0 where
  pub some : ((st : State) × Opens key kind past map st)
      ⊎ (((fault : PeersFault) × RefusesTables kind.chain past fault) ⊎ LacksKey key past)
  pub one_state : (a b : State) → Opens key kind past map a → Opens key kind past map b → a ≡ b
  pub one_fault : (f g : PeersFault) →
      RefusesTables kind.chain past f → RefusesTables kind.chain past g → f ≡ g
  pub not_refused : (a : State) (f : PeersFault) →
      Opens key kind past map a → RefusesTables kind.chain past f → ⊥
  pub no_lack : (a : State) → Opens key kind past map a → LacksKey key past → ⊥
  pub no_file_lacks : (f : PeersFault) → RefusesTables kind.chain past f → LacksKey key past → ⊥
