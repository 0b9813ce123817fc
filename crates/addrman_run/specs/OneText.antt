-- How a command ends that reads no log and no file, and writes one text.
use Rattle.std.specs.Prelude.{◌≡◌, ℕ, List, Option}
use Rattle.host_io.specs.Outside.{Outside}
use Rattle.host_io.specs.Writing.{Appended, AppendedPart}
use Rattle.addrman_run.specs.Log.{SameLog}
use Rattle.addrman_run.specs.declared.status.Status.{Status}
use Rattle.addrman_run.specs.declared.status.Status.TheVariants.{Done, WriteFault, Memory}

-- What is written for each status. IsText says which text the command writes.
abbrev pub OneText : (List ℕ → Type 0) → Option (List ℕ) → Option (List ℕ) → Status → Type 0
OneText IsText old new Done = (text : List ℕ) × IsText text × Appended old new text
OneText IsText old new WriteFault = (text : List ℕ) × IsText text × AppendedPart old new text
OneText IsText old new Memory = new ≡ old
OneText IsText old new other = ⊥

-- nothing is read, and no file is changed
pub record OneTextEnds (IsText : List ℕ → Type 0)
    (old new : Outside) (status : Status) : Type 0 where
  pub text : OneText IsText old.written new.written status
  pub left : SameLog old new
  pub same : new.past ≡ old.past
