-- What an opener writes for the lines of a log, and how it ends.
use Rattle.std.specs.Prelude.{◌≡◌, ℕ, ◌+◌, ◌≤◌, List, [], length, Option}
use Rattle.host_io.specs.Outside.{Outside}
use Rattle.host_io.specs.Reading.{TakesAtMost}
use Rattle.log_run.specs.Run.{Ran, Run}
use Rattle.log_run.specs.declared.run.LogEnd.{LogEnd}
use Rattle.log_run.specs.declared.sizes.TheConstants.{MAX_LOG}
use Rattle.peer_open.specs.Groups.{AreApart}
use Rattle.peer_open.specs.declared.opener.TheConstants.{MAX_OUTBOUND}
use Rattle.peer_open.specs.declared.rules.OpenRules.{OpenRules}
use Rattle.opener_lines.specs.Fair.{IsFair}
use Rattle.opener_lines.specs.Grammar.{HasRequestFault}
use Rattle.opener_lines.specs.Lines.{LineStep}
use Rattle.opener_lines.specs.State as opener
use Rattle.opener_lines.specs.State.{Answer, RequestStep}
use Rattle.opener_lines.specs.declared.command.OpenerCommand.{OpenerCommand}
use Rattle.arguments.specs.declared.file_kind.FileKind.{FileKind}
use Rattle.table_machine.specs.State as tables
use Rattle.addrman_run.specs.Log.{LogOutcome, streams_of}
use Rattle.addrman_run.specs.Opening.{Opened}
use Rattle.addrman_run.specs.Replay.{NotOpened}
use Rattle.addrman_run.specs.declared.status.Status.{Status}

-- what an opener begins with: its rules, the tables, at the time 0, and no open peers
abbrev pub opener_start : OpenRules → tables.State → opener.OpenerState
opener_start rules st = opener.state rules (record { tables = st; clock = 0 }) []

-- Whatever lines were carried out: at most ten peers are open, no two of them count in one group,
-- and a peer that answers the next request was taken by the rules.
pub record KeepsRules (start : opener.OpenerState) : Type 0 where
  pub apart : (lines : List (List ℕ)) (text : List ℕ) (now : opener.OpenerState)
      → Run LineStep start lines text now → AreApart now.open_peers
  pub few : (lines : List (List ℕ)) (text : List ℕ) (now : opener.OpenerState)
      → Run LineStep start lines text now → length now.open_peers ≤ MAX_OUTBOUND
  pub fair : (lines : List (List ℕ)) (text : List ℕ) (now : opener.OpenerState)
      → Run LineStep start lines text now
      → (asked : OpenerCommand) (answer : Answer) (next : opener.OpenerState)
      → RequestStep now asked answer next → IsFair now asked answer

-- An opener that got past its opening, by the end of its run over the log.
pub record OpenerRan (rules : OpenRules) (key : Option (List ℕ)) (kind : FileKind)
    (old new : Outside) (how : LogEnd) : Type 0 where
  pub tables : tables.State
  pub opened : Opened key kind old.past tables
  pub ran : Ran LineStep HasRequestFault (opener_start rules tables)
      (streams_of old) (streams_of new) how
  pub kept : KeepsRules (opener_start rules tables)

-- how an opener ends, by its status
abbrev pub OpenerOutcome : OpenRules → Option (List ℕ) → FileKind → Outside → Outside → Status
    → Type 0
OpenerOutcome rules key kind old new =
    LogOutcome (OpenerRan rules key kind old new) (NotOpened key kind.chain old new)

-- How `opener` ends: its outcome by its status. No file is changed, and at most one byte more than
-- a log may have is read.
pub record OpenerEnds (rules : OpenRules) (key : Option (List ℕ)) (kind : FileKind)
    (old new : Outside) (answer : Status) : Type 0 where
  pub outcome : OpenerOutcome rules key kind old new answer
  pub taken : TakesAtMost old.left new.left (MAX_LOG + 1)
  pub past : new.past ≡ old.past
