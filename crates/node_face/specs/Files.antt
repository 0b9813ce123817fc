-- Tables that are opened, and those that a file of peers has.
use Rattle.std.specs.Prelude.{◌≡◌, ◌≢◌, ℕ, ◌<◌, List, length, Option, None, Some, IfSome, ⊤}
use Rattle.std.specs.Option.{option_map}
use Rattle.asmap_vm.specs.Asmap.{Asmap}
use Rattle.host_io.specs.Files.{Files}
use Rattle.host_io.specs.PerName.{under}
use Rattle.host_io.specs.declared.name.Name.TheVariants.{Peers}
use Rattle.peer_rec.specs.Snapshot.{Snapshot}
use Rattle.placing.specs.declared.sum.SumRule.{SumRule}
use Rattle.table_machine.specs.State.{State, empty_state}
use Rattle.table_machine.specs.Restoring.{restored, duplicate}
use Rattle.peers_file.specs.Layout.{IsFile, HasFileFault}
use Rattle.peers_file.specs.declared.chain.Chain.{Chain}
use Rattle.peers_file.specs.declared.read.TheConstants.{MAX_FILE}
use Rattle.peers_file.specs.declared.fault.FileFault.TheVariants as file
use Rattle.node_face.specs.declared.files.OpenFault.{OpenFault}
use Rattle.node_face.specs.declared.files.OpenFault.TheVariants.{Disk, TooLarge, File, Duplicate, Memory}

-- empty tables of the key and the asmap, with the rule for its checksum
abbrev pub IsOpened : List ℕ → Option Asmap → SumRule → State → Type 0
IsOpened key map rule st = st ≡ empty_state (record { key = key; map = map; rule = rule })

-- the tables of the file that the bytes are, with its key, the asmap and the rule for its checksum;
-- no two of its valid records have one peer
abbrev pub IsLoaded : Chain → List ℕ → Option Asmap → SumRule → State → Type 0
IsLoaded chain bytes map rule st =
    (snap : Snapshot) × IsFile chain bytes snap × (duplicate snap ≡ None)
    × (st ≡ restored snap (record { key = snap.key; map = map; rule = rule }))

-- why bytes have no tables: memory, their first fault as a file, or two valid records of one peer
abbrev pub IsOpenFault : Chain → List ℕ → OpenFault → Type 0
IsOpenFault chain bytes Memory = ⊤
IsOpenFault chain bytes Disk = ⊥
IsOpenFault chain bytes (TooLarge size) = ⊥
IsOpenFault chain bytes (File why) = HasFileFault chain bytes why × (why ≢ file.Memory)
IsOpenFault chain bytes (Duplicate index) =
    (snap : Snapshot) × IsFile chain bytes snap × (duplicate snap ≡ Some index)

-- the bytes are those of the folder's peers.dat, if contracts know its files
abbrev pub IsPeersFile : Option Files → List ℕ → Type 0
IsPeersFile known bytes = IfSome known (λ files. under files Peers ≡ Some bytes)

-- the tables of the folder's peers.dat
abbrev pub IsFromFolder : Option Files → Chain → Option Asmap → SumRule → State → Type 0
IsFromFolder known chain map rule st =
    (bytes : List ℕ) × IsPeersFile known bytes × IsLoaded chain bytes map rule st

-- why the folder's peers.dat has no tables: the folder or memory, its size, or what is wrong with
-- its bytes
abbrev pub IsFolderFault : Option Files → Chain → OpenFault → Type 0
IsFolderFault known chain Disk = ⊤
IsFolderFault known chain Memory = ⊤
IsFolderFault known chain (TooLarge size) =
    (MAX_FILE < size) × IfSome known (λ files. option_map length (under files Peers) ≡ Some size)
IsFolderFault known chain (File why) =
    (bytes : List ℕ) × IsPeersFile known bytes × IsOpenFault chain bytes (File why)
IsFolderFault known chain (Duplicate index) =
    (bytes : List ℕ) × IsPeersFile known bytes × IsOpenFault chain bytes (Duplicate index)
