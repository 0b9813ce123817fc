-- What compiling prefixes.txt writes and saves, and how it ends.
use Rattle.std.specs.Prelude.{◌≡◌, ◌≢◌, ◌⊎◌, ℕ, ◌≤◌, List, ◌++◌, length, Option, Some, IfSome, codes, decimal}
use Rattle.host_io.specs.Disk.{Disk, MayHave}
use Rattle.host_io.specs.Outside.{Outside}
use Rattle.host_io.specs.Past.{Past, Always}
use Rattle.host_io.specs.PerName.{under}
use Rattle.host_io.specs.Writing.{Appended, AppendedPart}
use Rattle.host_io.specs.declared.name.Name.{Name}
use Rattle.host_io.specs.declared.name.Name.TheVariants as name
use Rattle.prefix_table.specs.declared.rows.Row.{Row}
use Rattle.asmap_vm.specs.Code.{code, IsSaneFile}
use Rattle.asmap_compile.specs.Compiled.{compiled}
use Rattle.asmap_compile.specs.declared.compiling.TheConstants.{MAX_BITS}
use Rattle.save_store.specs.Saves.{IsStored, NoMore}
use Rattle.addrman_run.specs.InFolder.{IsAbsent, ReportsAbsence}
use Rattle.addrman_run.specs.Log.{SameLog}
use Rattle.addrman_run.specs.Tables.{IsTableIn, ReportsTable}
use Rattle.addrman_run.specs.declared.status.Status.{Status}
use Rattle.addrman_run.specs.declared.status.Status.TheVariants.{Done, WriteFault, DiskFault, Memory, NoFile}

-- how many rows a table has, and how many bits and bytes the file of its compiled tree
unfoldable pub compile_text : List Row → List ℕ → List ℕ
compile_text rows file =
    codes "compiled " ++ decimal (length rows)
    ++ codes " rows " ++ decimal (length (code (compiled rows)))
    ++ codes " bits " ++ decimal (length file) ++ codes " bytes\n"

-- the rows of the folder's prefixes.txt, whose code is within the limit, and the file of the code
pub record IsCompiled (past : Option Past) (rows : List Row) (file : List ℕ) : Type 0 where
  pub table : IsTableIn past rows
  pub small : length (code (compiled rows)) ≤ MAX_BITS
  pub sane : IsSaneFile (compiled rows) file

-- The disk of a moment beside the one at the start: a crash leaves in asmap.dat what it could leave
-- there at the start, or the whole file of the folder's table; and at each other name but asmap.tmp
-- nothing that it could not leave at the start.
pub record IsOldOrNew (past : Option Past) (start disk : Disk) : Type 0 where
  pub asmap : (found : Option (List ℕ)) → MayHave (under disk name.Asmap) found →
      MayHave (under start name.Asmap) found
      ⊎ ((rows : List Row) × (file : List ℕ) × IsCompiled past rows file × (found ≡ Some file))
  pub others : (other : Name) → other ≢ name.AsmapTemp → other ≢ name.Asmap →
      NoMore start disk other

-- the file reads as these bytes, and every crash leaves it with them
abbrev pub IsInPlace : Name → List ℕ → Option Past → Type 0
IsInPlace name file past = IfSome past (λ p.
    ((under p.now name).file ≡ Some file) × IsStored name file p.now)

-- The file of the folder's table is in its place, and the line about it was written, or a part.
abbrev pub SavesTable : (Option (List ℕ) → Option (List ℕ) → List ℕ → Type 0) →
    Option Past → Option Past → Option (List ℕ) → Option (List ℕ) → Type 0
SavesTable Writes old new before after =
    (rows : List Row) × (file : List ℕ) × IsCompiled old rows file × IsInPlace name.Asmap file new
    × Writes before after (compile_text rows file)

-- the folder was not changed, or there is a table to be compiled
abbrev pub SavesOnlyTable : Option Past → Option Past → Type 0
SavesOnlyTable old new =
    (new ≡ old) ⊎ ((rows : List Row) × (file : List ℕ) × IsCompiled old rows file)

-- What is saved and written for each status, from the past of the folder at the start and at the
-- end, and what the output had before and after.
abbrev pub CompileText : Option Past → Option Past → Option (List ℕ) → Option (List ℕ) →
    Status → Type 0
CompileText old new before after Done = SavesTable Appended old new before after
CompileText old new before after WriteFault = SavesTable AppendedPart old new before after
CompileText old new before after (NoFile n) =
    (n ≡ name.Prefixes) × IsAbsent name.Prefixes old × (new ≡ old) × (after ≡ before)
CompileText old new before after DiskFault = SavesOnlyTable old new × (after ≡ before)
CompileText old new before after Memory = (new ≡ old) × (after ≡ before)
CompileText old new before after other =
    ReportsTable old other × (new ≡ old) × (after ≡ before)

-- How `compile` ends: it saves the asmap of prefixes.txt and writes its sizes, or reports why it
-- did not. At every moment the folder has the old asmap.dat or the new one.
pub record CompileEnds (old new : Outside) (status : Status) : Type 0 where
  pub text : CompileText old.past new.past old.written new.written status
  pub any_moment : Always old.past new.past (IsOldOrNew old.past)
  pub absent : ReportsAbsence name.Prefixes old.past status
  pub left : SameLog old new
