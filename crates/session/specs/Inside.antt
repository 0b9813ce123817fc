-- What a command has done, which no public clause cites.
use Rattle.std.specs.Prelude.{ℕ, Option}
use Rattle.host_io.specs.Past.{Past}
use Rattle.log_lines.specs.declared.command.Command.{Command}
use Rattle.log_lines.specs.declared.reply.Reply.{Reply}
use Rattle.session_saves.specs.Events.{Ended}
use Rattle.session_saves.specs.Folders.{HasEnded}
use Rattle.session.specs.State.{CommandStep, SessionState}

-- what a command has done, to the session and to the folder
pub record Carried (old : SessionState) (asked : Command) (answer : Reply) (new : SessionState)
    (after : Option Past) (faults_before faults_after : ℕ) : Type 0 where
  pub ended : Option Ended
  pub step : CommandStep old asked answer new ended
  pub has : HasEnded ended after faults_before faults_after
