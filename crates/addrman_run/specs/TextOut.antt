-- How a command ends that writes a text about files of the folder, of which none has to be there.
use Rattle.std.specs.Prelude.{◌≡◌, ℕ, List, Option}
use Rattle.host_io.specs.Past.{Past}
use Rattle.host_io.specs.Outside.{Outside}
use Rattle.host_io.specs.Writing.{Appended, AppendedPart}
use Rattle.addrman_run.specs.InFolder.{ReportsNoPeers}
use Rattle.addrman_run.specs.Log.{SameLog}
use Rattle.addrman_run.specs.declared.status.Status.{Status}
use Rattle.addrman_run.specs.declared.status.Status.TheVariants.{Done, WriteFault, DiskFault, Memory}

-- What is written for each status. IsText says which text is one about the folder, and Refuses why
-- its files are refused.
abbrev pub TextOut : (Option Past → List ℕ → Type 0) → (Option Past → Status → Type 0) →
    Option Past → Option (List ℕ) → Option (List ℕ) → Status → Type 0
TextOut IsText Refuses past old new Done =
    (text : List ℕ) × IsText past text × Appended old new text
TextOut IsText Refuses past old new WriteFault =
    (text : List ℕ) × IsText past text × AppendedPart old new text
TextOut IsText Refuses past old new DiskFault = new ≡ old
TextOut IsText Refuses past old new Memory = new ≡ old
TextOut IsText Refuses past old new other = Refuses past other × (new ≡ old)

-- How such a command ends: its text and status, and that log and folder stay as they were.
pub record TextEnds (IsText : Option Past → List ℕ → Type 0)
    (Refuses : Option Past → Status → Type 0) (old new : Outside) (status : Status) : Type 0 where
  pub text : TextOut IsText Refuses old.past old.written new.written status
  pub left : SameLog old new
  pub same : new.past ≡ old.past

-- The text is about the tables of peers.dat. If that file and asmap.dat are absent, that is said.
pub record TablesTextEnds (IsText : Option Past → List ℕ → Type 0)
    (Refuses : Option Past → Status → Type 0) (old new : Outside) (status : Status) : Type 0 where
  pub ends : TextEnds IsText Refuses old new status
  pub absent : ReportsNoPeers old.past status
