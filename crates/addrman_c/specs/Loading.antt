-- What the call that loads a file does.
use Rattle.std.specs.Prelude.{◌≡◌, ◌≢◌, ◌⊎◌, ℕ, List, [], Option, Some, None, ⊤}
use Rattle.asmap_vm.specs.Asmap.{Asmap}
use Rattle.peer_rec.specs.Snapshot.{Snapshot}
use Rattle.placing.specs.declared.sum.SumRule.{SumRule}
use Rattle.table_machine.specs.Restoring.{restored, duplicate}
use Rattle.peers_file.specs.Layout.{IsFile, HasFileFault}
use Rattle.peers_file.specs.declared.chain.Chain.{Chain}
use Rattle.peers_file.specs.declared.fault.FileFault.{FileFault}
use Rattle.peers_file.specs.declared.fault.FileFault.TheVariants as file
use Rattle.c_values.specs.declared.code.TheConstants.{OK, MEMORY, ARGUMENT, REFUSED}
use Rattle.c_handles.specs.declared.handle.Kept.{Kept}
use Rattle.c_values.specs.declared.structs.AddrmanFault.{AddrmanFault}
use Rattle.addrman_c.specs.declared.peers_dat.LoadFault.{LoadFault}
use Rattle.addrman_c.specs.declared.peers_dat.LoadFault.TheVariants.{Memory, Refused, Duplicate}
use Rattle.addrman_c.specs.Files.{IsMapOf, IsNoMap}
use Rattle.c_values.specs.Faults.{fault_at}

-- a fault of a file as the header has it
abbrev pub fault_of : FileFault → AddrmanFault
fault_of file.Truncated = fault_at 1 0
fault_of file.Trailing = fault_at 6 0
fault_of file.BadMagic = fault_at 10 0
fault_of file.BadSum = fault_at 11 0
fault_of (file.Compat byte) = fault_at 12 byte
fault_of (file.Version byte) = fault_at 13 byte
fault_of (file.Count which value) = fault_at 14 0
fault_of (file.Record index cause) = fault_at 15 index
fault_of (file.Buckets value) = fault_at 16 0
fault_of (file.Time index) = fault_at 17 index
fault_of (file.Attempts index) = fault_at 18 index
fault_of (file.TooLarge size) = fault_at 19 size
fault_of file.Memory = fault_at 0 0

-- the tables of the file that the bytes are, which has no two valid records of one peer, with its
-- key, the asmap and the rule of its checksum, and no outbound peer
abbrev pub IsLoaded : Chain → List ℕ → Option Asmap → SumRule → Kept → Type 0
IsLoaded chain bytes map rule kept =
    (snap : Snapshot) × IsFile chain bytes snap × (duplicate snap ≡ None)
    × (kept ≡ record {
      tables = restored snap (record { key = snap.key; map = map; rule = rule });
      opener = [];
    })

-- why bytes are not loaded: memory, their first fault as a file, or two valid records of one peer
abbrev pub IsLoadFault : Chain → List ℕ → LoadFault → Type 0
IsLoadFault chain bytes Memory = ⊤
IsLoadFault chain bytes (Refused why) = HasFileFault chain bytes why × (why ≢ file.Memory)
IsLoadFault chain bytes (Duplicate index) =
    (snap : Snapshot) × IsFile chain bytes snap × (duplicate snap ≡ Some index)

-- the code and the output that say why bytes are not loaded
abbrev pub TellsLoad : LoadFault → ℕ → AddrmanFault → Type 0
TellsLoad Memory code out = code ≡ MEMORY
TellsLoad (Refused why) code out = (code ≡ REFUSED) × (out ≡ fault_of why)
TellsLoad (Duplicate index) code out = (code ≡ REFUSED) × (out ≡ fault_at 20 index)

-- A file is loaded, or the handle is closed: an asmap that is refused goes before the file. None is
-- no chain.
abbrev pub LoadCall : Option Chain → List ℕ → List ℕ → SumRule → ℕ → AddrmanFault → Option Kept
    → Type 0
LoadCall None bytes asmap rule code out None = code ≡ ARGUMENT
LoadCall None bytes asmap rule code out (Some kept) = ⊥
LoadCall (Some chain) bytes asmap rule code out None =
    ((code ≡ REFUSED) × IsNoMap asmap × (out ≡ fault_at 21 0))
    ⊎ ((map : Option Asmap) × IsMapOf asmap map
    × ((why : LoadFault) × IsLoadFault chain bytes why × TellsLoad why code out))
LoadCall (Some chain) bytes asmap rule code out (Some kept) =
    (code ≡ OK) × ((map : Option Asmap) × IsMapOf asmap map × IsLoaded chain bytes map rule kept)
