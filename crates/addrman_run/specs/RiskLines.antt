-- What is written of the part of the picks that falls to each set of addresses that a line of a log
-- names, and how that ends.
use Rattle.std.specs.Prelude.{◌≡◌, ◌⊎◌, ℕ, ◌+◌, List, [], ◌∷◌, ◌++◌, Option, None, ⊤}
use Rattle.grammar.specs.declared.fault.LineFault.{LineFault}
use Rattle.grammar.specs.declared.fault.LineFault.TheVariants.{Peer}
use Rattle.host_io.specs.Lines.{IsPassedOver}
use Rattle.host_io.specs.Outside.{Outside}
use Rattle.host_io.specs.Past.{Past}
use Rattle.host_io.specs.Reading.{TakesAtMost}
use Rattle.host_io.specs.Writing.{Appended, AppendedPart}
use Rattle.log_run.specs.Run.{Ran, Steps, Streams}
use Rattle.log_run.specs.declared.run.LogEnd.{LogEnd}
use Rattle.log_run.specs.declared.run.LogEnd.TheVariants as end
use Rattle.log_run.specs.declared.sizes.TheConstants.{MAX_LOG}
use Rattle.arguments.specs.declared.file_kind.FileKind.{FileKind}
use Rattle.risk_parts.specs.Sets.{IsSetText}
use Rattle.risk_parts.specs.declared.addr_set.AddrSet.{AddrSet}
use Rattle.table_machine.specs.State.{State}
use Rattle.table_risk.specs.SetTexts.{sets_text}
use Rattle.addrman_run.specs.EachLine.{Mean}
use Rattle.addrman_run.specs.InFolder.{ReportsNoPeers}
use Rattle.addrman_run.specs.Log.{LogOutcome, streams_of}
use Rattle.addrman_run.specs.Opening.{Opened, ReportsTables}
use Rattle.addrman_run.specs.Replay.{IsUntouched}
use Rattle.addrman_run.specs.declared.risk.TheConstants.{AFTER_RESTART}
use Rattle.addrman_run.specs.declared.status.Status.{Status}
use Rattle.addrman_run.specs.declared.status.Status.TheVariants as status

-- the line is neither passed over nor the text of a set
abbrev pub HasSetFault : List ℕ → LineFault → Type 0
HasSetFault line fault =
    ¬ IsPassedOver line × (fault ≡ Peer) × ((set : AddrSet) → ¬ IsSetText line set)

-- A line is passed over, or names one set more. Nothing is written.
abbrev pub SetStep : Steps (List AddrSet)
SetStep old line text new =
    (text ≡ [])
    × ((IsPassedOver line × (new ≡ old))
    ⊎ ((set : AddrSet) × IsSetText line set × (new ≡ old ++ set ∷ [])))

-- A run over the log, by its end, after which its lines have named these sets. It wrote nothing.
pub record SetsRead (old new : Streams) (sets : List AddrSet) (how : LogEnd) : Type 0 where
  pub ran : Ran SetStep HasSetFault [] old new how
  pub now : ran.now ≡ sets
  pub silent : Appended old.written new.written []
  pub each : Mean IsSetText ran.carried sets

-- how a text is written that is made first
abbrev pub Writes : List ℕ → Option (List ℕ) → Option (List ℕ) → LogEnd → Type 0
Writes text old new end.Done = Appended old new text
Writes text old new end.WriteFault = AppendedPart old new text
Writes text old new end.Memory = new ≡ old
Writes text old new other = ⊥

-- The text is written once the log was read to its end; else it ends as the reading did.
abbrev pub WritesAfter : LogEnd → List ℕ → Streams → Streams → LogEnd → Type 0
WritesAfter end.Done text old new how =
    (new.left ≡ old.left) × Writes text old.written new.written how
WritesAfter read text old new how = (how ≡ read) × (new ≡ old)

-- The log was read, which wrote nothing, and after its last line the text was written of the sets
-- that the lines name.
pub record SetsRan (st : State) (old new : Streams) (how : LogEnd) : Type 0 where
  pub sets : List AddrSet
  pub middle : Streams
  pub read : LogEnd
  pub lines : SetsRead old middle sets read
  pub wrote : WritesAfter read (sets_text st AFTER_RESTART sets) middle new how

-- the same of the tables that the folder's peers.dat and asmap.dat open, at a time at which no try
-- is of the last ten minutes
pub record RiskedSets (kind : FileKind) (past : Option Past) (old new : Streams)
    (how : LogEnd) : Type 0 where
  pub tables : State
  pub opened : Opened None kind past tables
  pub ran : SetsRan tables old new how

-- why no tables were opened
abbrev pub LacksTables : FileKind → Option Past → Status → Type 0
LacksTables kind past status.DiskFault = ⊤
LacksTables kind past status.Memory = ⊤
LacksTables kind past other = ReportsTables kind.chain past other

-- how it ends, by its status
abbrev pub RiskLinesOutcome : FileKind → Outside → Outside → Status → Type 0
RiskLinesOutcome kind old new =
    LogOutcome (RiskedSets kind old.past (streams_of old) (streams_of new))
    (λ answer. LacksTables kind old.past answer × IsUntouched old new)

-- How `risk -` ends: its outcome by its status. An absent peers.dat is reported. No file is
-- changed, and at most one byte more than a log may have is read.
pub record RiskLinesEnds (kind : FileKind) (old new : Outside) (answer : Status) : Type 0 where
  pub outcome : RiskLinesOutcome kind old new answer
  pub absent : ReportsNoPeers old.past answer
  pub taken : TakesAtMost old.left new.left (MAX_LOG + 1)
  pub past : new.past ≡ old.past
