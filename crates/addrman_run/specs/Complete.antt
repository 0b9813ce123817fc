-- When a run has to do what it is asked for: nothing is wrong with the log and the files, and
-- nothing fails. This follows from how a request ends and why a fault comes. It needs no law that
-- bytes have one meaning, since its premise is that no refusal applies.
use Rattle.std.specs.Prelude.{◌≡◌, ◌⊎◌, ◌≤◌, ℕ, List, All, length, Option, Some, None, ⊤, option_map}
use Rattle.addr_limit.specs.Lines.{SaysEvent}
use Rattle.addr_limit.specs.declared.command.Event.{Event}
use Rattle.host_io.specs.Faults.{Rose}
use Rattle.host_io.specs.Lines.{IsPassedOver, lines_of}
use Rattle.host_io.specs.Outside.{Outside}
use Rattle.host_io.specs.Past.{Past}
use Rattle.host_io.specs.declared.name.Name.{Name}
use Rattle.host_io.specs.declared.name.Name.TheVariants as name
use Rattle.log_lines.specs.Spelling.{SpellsCommand}
use Rattle.log_lines.specs.declared.command.Command.{Command}
use Rattle.log_run.specs.declared.run.LogEnd.{LogEnd}
use Rattle.log_run.specs.declared.sizes.TheConstants.{MAX_LINE, MAX_LOG}
use Rattle.names.specs.Text.{IsTextOf}
use Rattle.net_addr.specs.Address as net
use Rattle.net_addr.specs.declared.peer.Peer.{Peer}
use Rattle.opener_lines.specs.Grammar.{LineAsks}
use Rattle.opener_lines.specs.declared.command.OpenerCommand as opener
use Rattle.raw_file.specs.Listing.{first_fault}
use Rattle.raw_read.specs.Raw.{IsRaw}
use Rattle.raw_read.specs.declared.read.TheConstants.{MAX_TEXT}
use Rattle.raw_read.specs.declared.raw.Raw as rows
use Rattle.risk_parts.specs.Sets.{IsSetText}
use Rattle.risk_parts.specs.declared.addr_set.AddrSet.{AddrSet}
use Rattle.session.specs.History.{failed}
use Rattle.addrman_run.specs.Anchors.{ReportsAnchors}
use Rattle.addrman_run.specs.Asmaps.{ReportsAsmap}
use Rattle.addrman_run.specs.Bans.{ReportsBans}
use Rattle.addrman_run.specs.Decompile.{ReportsDecompile}
use Rattle.addrman_run.specs.Diff.{ReportsDiff}
use Rattle.addrman_run.specs.InFolder.{IsAbsent}
use Rattle.addrman_run.specs.LookupLines.{IsPeerLine}
use Rattle.addrman_run.specs.Opening.{ReportsOpening, ReportsTables}
use Rattle.addrman_run.specs.Replay.{Replayed}
use Rattle.addrman_run.specs.Show.{ReportsPeers}
use Rattle.addrman_run.specs.Tables.{ReportsTable}
use Rattle.addrman_run.specs.Views.{ReportsView}
use Rattle.arguments.specs.declared.request.Request.{Request}
use Rattle.arguments.specs.declared.request.Request.TheVariants.{Show, Anchors, Picture, Raw, Info, Groups, Risk, RiskLines, FromRaw, Replay, Opener, Compile, Check, Lookup, LookupLines, Address, AddressLines, Decompile, Diff, Limit, Ban, Unban, Banned, Bans}
use Rattle.addrman_run.specs.declared.status.Status.{Status}
use Rattle.addrman_run.specs.declared.status.Status.TheVariants.{Done, Memory}

-- THE LOG

-- a line that a replay carries out: it is passed over, or parses as a command
abbrev pub IsReplayLine : List ℕ → Type 0
IsReplayLine line = IsPassedOver line ⊎ ((command : Command) × SpellsCommand line command)

-- a line that an opener carries out
abbrev pub IsOpenerLine : List ℕ → Type 0
IsOpenerLine line = IsPassedOver line ⊎ ((asked : opener.OpenerCommand) × LineAsks line asked)

-- a line that the limit carries out
abbrev pub IsLimitLine : List ℕ → Type 0
IsLimitLine line = (event : Event) × SaysEvent line event

-- a line that a lookup of each line carries out
abbrev pub IsLookupLine : List ℕ → Type 0
IsLookupLine line = IsPassedOver line ⊎ ((peer : Peer) × IsPeerLine line peer)

-- a line that `address -` carries out
abbrev pub IsAddressLine : List ℕ → Type 0
IsAddressLine line = IsPassedOver line ⊎ ((a : net.Address) × IsTextOf line a)

-- a line that `risk -` carries out
abbrev pub IsSetLine : List ℕ → Type 0
IsSetLine line = IsPassedOver line ⊎ ((set : AddrSet) × IsSetText line set)

-- Contracts know the log. It is within its limit, each of its lines is within the limit of a line,
-- and each is one that the command carries out.
pub record IsGoodLog (IsLine : List ℕ → Type 0) (left : Option (List ℕ)) : Type 0 where
  pub log : List ℕ
  pub known : left ≡ Some log
  pub within : length log ≤ MAX_LOG
  pub short : All (λ line. length line ≤ MAX_LINE) (lines_of log)
  pub right : All IsLine (lines_of log)

-- Contracts know the input of `from-raw`. It is within its limit, a text of slots and their
-- records, and no peer is there again.
pub record IsGoodListing (left : Option (List ℕ)) : Type 0 where
  pub text : List ℕ
  pub known : left ≡ Some text
  pub within : length text ≤ MAX_TEXT
  pub raw : rows.Raw
  pub right : IsRaw text raw
  pub once : first_fault raw ≡ None

-- THE FILES

-- No status reports a refusal. If contracts don't know the files, a refusal is never ruled out.
abbrev pub NoRefusal : (Status → Type 0) → Type 0
NoRefusal Reports = (answer : Status) → ¬ Reports answer

-- the file is there, and no status reports a refusal of it
abbrev pub IsUsable : Name → (Option Past → Status → Type 0) → Option Past → Type 0
IsUsable name Reports past = ¬ IsAbsent name past × NoRefusal (Reports past)

-- THE WHOLE

-- Nothing is wrong with what the request reads: the log, if it reads one, and its files.
abbrev pub NothingIsWrong : Request → Outside → Type 0
NothingIsWrong (Replay key kind) at =
    IsGoodLog IsReplayLine at.left × NoRefusal (ReportsOpening key kind.chain at.past)
NothingIsWrong (Opener rules key kind) at =
    IsGoodLog IsOpenerLine at.left × NoRefusal (ReportsOpening key kind.chain at.past)
NothingIsWrong Compile at = IsUsable name.Prefixes ReportsTable at.past
NothingIsWrong Check at = IsUsable name.Asmap ReportsAsmap at.past
NothingIsWrong Decompile at = IsUsable name.Asmap ReportsDecompile at.past
NothingIsWrong (Diff peers) at =
    NoRefusal (ReportsDiff (option_map (λ kind. kind.chain) peers) at.past)
NothingIsWrong Limit at = IsGoodLog IsLimitLine at.left
NothingIsWrong (Lookup peer) at = IsUsable name.Asmap ReportsAsmap at.past
NothingIsWrong LookupLines at =
    IsGoodLog IsLookupLine at.left × IsUsable name.Asmap ReportsAsmap at.past
NothingIsWrong (Address addr) at = NoRefusal (ReportsAsmap at.past)
NothingIsWrong AddressLines at =
    IsGoodLog IsAddressLine at.left × NoRefusal (ReportsAsmap at.past)
NothingIsWrong (Show keyed kind) at = IsUsable name.Peers (ReportsPeers kind.chain) at.past
NothingIsWrong (Anchors chain) at = IsUsable name.Peers (ReportsAnchors chain) at.past
NothingIsWrong (Picture colours from) at = NoRefusal (ReportsView from at.past)
NothingIsWrong (Raw kind) at = NoRefusal (ReportsTables kind.chain at.past)
NothingIsWrong (Info from) at = NoRefusal (ReportsView from at.past)
NothingIsWrong (Groups from) at = NoRefusal (ReportsView from at.past)
NothingIsWrong (Risk by from) at = NoRefusal (ReportsView from at.past)
NothingIsWrong (RiskLines kind) at =
    IsGoodLog IsSetLine at.left × NoRefusal (ReportsTables kind.chain at.past)
NothingIsWrong (FromRaw key kind) at = IsGoodListing at.left × NoRefusal (ReportsAsmap at.past)
NothingIsWrong (Ban rule subnet now until) at = NoRefusal (ReportsBans rule at.past)
NothingIsWrong (Unban rule subnet) at = NoRefusal (ReportsBans rule at.past)
NothingIsWrong (Banned rule peer now) at = NoRefusal (ReportsBans rule at.past)
NothingIsWrong (Bans rule now) at = NoRefusal (ReportsBans rule at.past)
NothingIsWrong other at = ⊤

-- The folder may not fail: before bytes of the log are taken, since a replay goes on when a save
-- fails; and `from-raw`, which saves when all of the log is read, needs it to its end.
abbrev pub NeedsFolder : Request → Outside → Outside → Type 0
NeedsFolder (FromRaw key kind) old new = ⊤
NeedsFolder other old new = new.left ≡ old.left

-- No count of faults rose; that of the folder may have risen once the request needs it no more.
pub record NothingFails (request : Request) (old new : Outside) : Type 0 where
  pub log : ¬ Rose old.log_faults new.log_faults
  pub out : ¬ Rose old.out_faults new.out_faults
  pub folder : NeedsFolder request old new → ¬ Rose old.folder_faults new.folder_faults

-- No save of a replay failed, unless the folder's count rose.
abbrev pub NoSaveFails : Request → Outside → Outside → Type 0
NoSaveFails (Replay key kind) old new =
    ¬ Rose old.folder_faults new.folder_faults →
    (how : LogEnd) (run : Replayed key kind old new how) → failed run.ran.now.ended ≡ 0
NoSaveFails other old new = ⊤

-- If nothing is wrong and nothing fails, the run is done, or memory ran out.
pub record IsComplete (request : Request) (old new : Outside) (answer : Status) : Type 0 where
  pub done : NothingIsWrong request old → NothingFails request old new
      → (answer ≡ Done) ⊎ (answer ≡ Memory)
  pub saved : NoSaveFails request old new
