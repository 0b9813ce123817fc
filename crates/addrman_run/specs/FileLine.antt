-- How a command ends that loads one file and writes a text about it: a line, or several.
use Rattle.std.specs.Prelude.{◌≡◌, ℕ, List, Option}
use Rattle.host_io.specs.Past.{Past}
use Rattle.host_io.specs.Outside.{Outside}
use Rattle.host_io.specs.Writing.{Appended, AppendedPart}
use Rattle.host_io.specs.declared.name.Name.{Name}
use Rattle.addrman_run.specs.InFolder.{IsAbsent, ReportsAbsence}
use Rattle.addrman_run.specs.Log.{SameLog}
use Rattle.addrman_run.specs.declared.status.Status.{Status}
use Rattle.addrman_run.specs.declared.status.Status.TheVariants.{Done, WriteFault, DiskFault, Memory, NoFile}

-- What is written for each status. IsLine says which text is one about the file, and Refuses why
-- the file is refused.
abbrev pub FileLineText : Name → (Option Past → List ℕ → Type 0) → (Option Past → Status → Type 0) →
    Option Past → Option (List ℕ) → Option (List ℕ) → Status → Type 0
FileLineText name IsLine Refuses past old new Done =
    (line : List ℕ) × IsLine past line × Appended old new line
FileLineText name IsLine Refuses past old new WriteFault =
    (line : List ℕ) × IsLine past line × AppendedPart old new line
FileLineText name IsLine Refuses past old new (NoFile n) =
    (n ≡ name) × IsAbsent name past × (new ≡ old)
FileLineText name IsLine Refuses past old new DiskFault = new ≡ old
FileLineText name IsLine Refuses past old new Memory = new ≡ old
FileLineText name IsLine Refuses past old new other = Refuses past other × (new ≡ old)

-- How such a command ends: its text and status, that the file is absent if it says so, and that log
-- and folder stay as they were.
pub record FileLineEnds (name : Name) (IsLine : Option Past → List ℕ → Type 0)
    (Refuses : Option Past → Status → Type 0) (old new : Outside) (status : Status) : Type 0 where
  pub text : FileLineText name IsLine Refuses old.past old.written new.written status
  pub absent : ReportsAbsence name old.past status
  pub left : SameLog old new
  pub same : new.past ≡ old.past
