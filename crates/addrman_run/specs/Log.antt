-- The log of a run that does not read it, and how a run over a log ends.
use Rattle.std.specs.Prelude.{◌≡◌, ◌⊎◌}
use Rattle.host_io.specs.Outside.{Outside}
use Rattle.log_run.specs.Run.{Streams}
use Rattle.log_run.specs.declared.run.LogEnd.{LogEnd}
use Rattle.log_run.specs.declared.run.LogEnd.TheVariants as end
use Rattle.addrman_run.specs.declared.status.Status.{Status}
use Rattle.addrman_run.specs.declared.status.Status.TheVariants as status

-- what is left of the log and its count of faults are unchanged
abbrev pub SameLog : Outside → Outside → Type 0
SameLog old new = (new.left ≡ old.left) × (new.log_faults ≡ old.log_faults)

-- what is known of the log and of the output
abbrev pub streams_of : Outside → Streams
streams_of at = record { left = at.left; written = at.written }

-- How a command ends that carries out the lines of a log, by its status: its run over the log ended
-- in this way, or there was no run.
abbrev pub LogOutcome : (LogEnd → Type 0) → (Status → Type 0) → Status → Type 0
LogOutcome ran not_run status.Done = ran end.Done
LogOutcome ran not_run (status.LogLine n fault) = ran (end.Fault n fault)
LogOutcome ran not_run (status.LineTooLong n) = ran (end.LineTooLong n)
LogOutcome ran not_run status.LogTooLong = ran end.LogTooLong
LogOutcome ran not_run status.ReadFault = ran end.ReadFault
LogOutcome ran not_run status.WriteFault = ran end.WriteFault
LogOutcome ran not_run status.Memory = not_run status.Memory ⊎ ran end.Memory
LogOutcome ran not_run other = not_run other
