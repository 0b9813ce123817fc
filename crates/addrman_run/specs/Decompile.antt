-- What turning asmap.dat back into a table writes, and how it ends.
use Rattle.std.specs.Prelude.{◌≡◌, ℕ, ◌<◌, ◌≤◌, Bool, List, length, Option, Some}
use Rattle.bit_code.specs.Coder.{number_of}
use Rattle.host_io.specs.Outside.{Outside}
use Rattle.host_io.specs.Past.{Past}
use Rattle.host_io.specs.declared.name.Name.TheVariants as name
use Rattle.asmap_back.specs.Back.{rows_back}
use Rattle.asmap_vm.specs.Asmap.{Asmap}
use Rattle.asmap_vm.specs.Code.{Tree, meaning}
use Rattle.prefix_table.specs.Print.{table_text}
use Rattle.prefix_table.specs.Rows.{best}
use Rattle.prefix_table.specs.declared.rows.Row.{Row}
use Rattle.prefix_table.specs.declared.rows.TheConstants.{MAX_ROWS}
use Rattle.addrman_run.specs.Asmaps.{IsMapIn, ReportsAsmap}
use Rattle.addrman_run.specs.FileLine.{FileLineEnds}
use Rattle.addrman_run.specs.declared.status.Status.{Status}
use Rattle.addrman_run.specs.declared.status.Status.TheVariants.{TooManyRows}

-- the longest row that covers an address gives it the number that the tree gives it
abbrev pub MeanTheSame : List Row → Tree → Type 0
MeanTheSame rows tree =
    (bits : List Bool) → length bits ≡ 128 → best rows (number_of bits) ≡ meaning tree bits 0

-- The text of the rows that the folder's asmap is turned back into. They are no more than a table
-- may have, and mean the same.
abbrev pub IsDecompiled : Option Past → List ℕ → Type 0
IsDecompiled past text =
    (m : Asmap) × IsMapIn past (Some m) × (length (rows_back m.tree) ≤ MAX_ROWS)
    × MeanTheSame (rows_back m.tree) m.tree × (text ≡ table_text (rows_back m.tree))

-- a status that says that there are more rows, or that asmap.dat is refused, with the reason
abbrev pub ReportsDecompile : Option Past → Status → Type 0
ReportsDecompile past TooManyRows =
    (m : Asmap) × IsMapIn past (Some m) × (MAX_ROWS < length (rows_back m.tree))
ReportsDecompile past other = ReportsAsmap past other

-- How `decompile` ends: it writes the rows of asmap.dat, or reports that it is absent, refused or
-- of too many rows. Nothing in the folder changes.
abbrev pub DecompileEnds : Outside → Outside → Status → Type 0
DecompileEnds = FileLineEnds name.Asmap IsDecompiled ReportsDecompile
