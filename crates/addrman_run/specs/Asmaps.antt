-- The asmaps of the folder.
use Rattle.std.specs.Prelude.{◌≡◌, ℕ, List, Option, Some, None, ⊤}
use Rattle.host_io.specs.Past.{Past}
use Rattle.host_io.specs.declared.name.Name.{Name}
use Rattle.host_io.specs.declared.name.Name.TheVariants as name
use Rattle.asmap_vm.specs.Asmap.{Asmap, IsAsmap}
use Rattle.bit_code.specs.declared.bits.TheConstants.{MAX_ASMAP}
use Rattle.asmap_vm.specs.Code.{Tree, IsSaneFile}
use Rattle.asmap_vm.specs.declared.fault.CodeFault.{CodeFault}
use Rattle.asmap_vm.specs.declared.fault.CodeFault.TheVariants.{TooLarge, Insane}
use Rattle.addrman_run.specs.InFolder.{IsFileIn, IsAbsent, IsTooLarge}
use Rattle.addrman_run.specs.declared.status.Status.{Status}
use Rattle.addrman_run.specs.declared.status.Status.TheVariants.{AsmapRefused, DiskFault, Memory}

-- the asmap in a file of the folder
abbrev pub IsMapAt : Name → Option Past → Asmap → Type 0
IsMapAt file past m = IsFileIn file MAX_ASMAP past m.file × IsAsmap m

-- the asmap of the folder's asmap.dat, none if there is no such file
abbrev pub IsMapIn : Option Past → Option Asmap → Type 0
IsMapIn past None = IsAbsent name.Asmap past
IsMapIn past (Some m) = IsMapAt name.Asmap past m

-- why a file is refused as an asmap: it is too large, or its bytes are the file of no sane tree
abbrev pub RefusesMapAt : Name → Option Past → CodeFault → Type 0
RefusesMapAt file past (TooLarge size) = IsTooLarge file MAX_ASMAP past size
RefusesMapAt file past Insane =
    (bytes : List ℕ) × IsFileIn file MAX_ASMAP past bytes × ((t : Tree) → ¬ IsSaneFile t bytes)

-- why asmap.dat is refused
abbrev pub RefusesAsmap : Option Past → CodeFault → Type 0
RefusesAsmap past fault = RefusesMapAt name.Asmap past fault

-- a line about the folder's asmap
abbrev pub IsAsmapLine : (Asmap → List ℕ) → Option Past → List ℕ → Type 0
IsAsmapLine line_of past line = (m : Asmap) × IsMapIn past (Some m) × (line ≡ line_of m)

-- a status that says that asmap.dat is refused, with the reason
abbrev pub ReportsAsmap : Option Past → Status → Type 0
ReportsAsmap past (AsmapRefused fault) = RefusesAsmap past fault
ReportsAsmap past other = ⊥

-- why there is no asmap, though it may be absent: the folder failed, memory ran out, or it is
-- refused
abbrev pub IsNoMap : Option Past → Status → Type 0
IsNoMap past DiskFault = ⊤
IsNoMap past Memory = ⊤
IsNoMap past other = ReportsAsmap past other
