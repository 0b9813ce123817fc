-- The folder's prefixes.txt.
use Rattle.std.specs.Prelude.{◌≡◌, ℕ, ◌<◌, List, [], length, Option}
use Rattle.host_io.specs.Past.{Past}
use Rattle.host_io.specs.declared.name.Name.TheVariants as name
use Rattle.prefix_table.specs.Text.{IsTableText, IsFault}
use Rattle.prefix_table.specs.declared.read.TheConstants.{MAX_TEXT}
use Rattle.prefix_table.specs.declared.rows.Row.{Row}
use Rattle.prefix_table.specs.declared.fault.TableFault.TheVariants as table
use Rattle.asmap_vm.specs.Code.{code}
use Rattle.asmap_compile.specs.Compiled.{compiled}
use Rattle.asmap_compile.specs.declared.compiling.TheConstants.{MAX_BITS}
use Rattle.asmap_compile.specs.declared.fault.CompileFault.TheVariants as compile
use Rattle.addrman_run.specs.InFolder.{IsFileIn, IsTooLarge}
use Rattle.addrman_run.specs.declared.tables_fault.TablesFault.{TablesFault}
use Rattle.addrman_run.specs.declared.tables_fault.TablesFault.TheVariants.{Rows, Compile}
use Rattle.addrman_run.specs.declared.status.Status.{Status}
use Rattle.addrman_run.specs.declared.status.Status.TheVariants.{TableRefused}

-- the rows of the folder's prefixes.txt
abbrev pub IsTableIn : Option Past → List Row → Type 0
IsTableIn past rows =
    (bytes : List ℕ) × IsFileIn name.Prefixes MAX_TEXT past bytes × IsTableText bytes rows

-- why prefixes.txt is refused: its size, its text, a table with no rows, or one whose code is too
-- long
abbrev pub RefusesTable : Option Past → TablesFault → Type 0
RefusesTable past (Rows (table.TooLarge size)) = IsTooLarge name.Prefixes MAX_TEXT past size
RefusesTable past (Rows table.Memory) = ⊥
RefusesTable past (Rows fault) =
    (bytes : List ℕ) × IsFileIn name.Prefixes MAX_TEXT past bytes × IsFault bytes fault
RefusesTable past (Compile compile.Empty) = IsTableIn past []
RefusesTable past (Compile (compile.TooLarge bits)) =
    (rows : List Row) × IsTableIn past rows × (MAX_BITS < bits)
    × (bits ≡ length (code (compiled rows)))
RefusesTable past (Compile compile.Memory) = ⊥

-- a status that says that prefixes.txt is refused, with the reason
abbrev pub ReportsTable : Option Past → Status → Type 0
ReportsTable past (TableRefused fault) = RefusesTable past fault
ReportsTable past other = ⊥
