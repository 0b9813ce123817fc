-- What a check of asmap.dat writes, and how it ends.
use Rattle.std.specs.Prelude.{ℕ, List, ◌++◌, length, codes, decimal}
use Rattle.host_io.specs.Outside.{Outside}
use Rattle.host_io.specs.declared.name.Name.TheVariants as name
use Rattle.asmap_vm.specs.Asmap.{Asmap}
use Rattle.addrman_run.specs.Asmaps.{IsAsmapLine, ReportsAsmap}
use Rattle.addrman_run.specs.FileLine.{FileLineEnds}
use Rattle.addrman_run.specs.declared.status.Status.{Status}

-- how many bytes a sane asmap has
unfoldable pub check_text : Asmap → List ℕ
check_text m = codes "sane " ++ decimal (length m.file) ++ codes " bytes\n"

-- How `check` ends: it writes the size of a sane asmap.dat, or reports that it is absent or why it
-- is refused. Nothing in the folder changes.
abbrev pub CheckEnds : Outside → Outside → Status → Type 0
CheckEnds = FileLineEnds name.Asmap (IsAsmapLine check_text) ReportsAsmap
