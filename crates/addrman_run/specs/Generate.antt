-- What `gen` writes, and how it ends.
use Rattle.std.specs.Prelude.{◌≡◌, ℕ, List, Option}
use Rattle.std.specs.List.{concat}
use Rattle.host_io.specs.Outside.{Outside}
use Rattle.host_io.specs.Writing.{Appended, AppendedPart, AppendedPrefix}
use Rattle.gen_load.specs.Log.{log}
use Rattle.addrman_run.specs.Log.{SameLog}
use Rattle.addrman_run.specs.declared.status.Status.{Status}
use Rattle.addrman_run.specs.declared.status.Status.TheVariants.{Done, WriteFault, Memory}

-- what of the generated log is written for each status
abbrev pub GenText : ℕ → ℕ → Option (List ℕ) → Option (List ℕ) → Status → Type 0
GenText start lines old new Done = Appended old new (concat (log start lines))
GenText start lines old new WriteFault = AppendedPart old new (concat (log start lines))
GenText start lines old new Memory = AppendedPrefix old new (concat (log start lines))
GenText start lines old new other = ⊥

-- How `gen` ends: it writes the generated log. Nothing is read, and no file is changed.
pub record GenEnds (start lines : ℕ) (old new : Outside) (status : Status) : Type 0 where
  pub text : GenText start lines old.written new.written status
  pub left : SameLog old new
  pub same : new.past ≡ old.past
