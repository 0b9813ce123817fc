-- How a request ends: what it writes, why its status comes, and what it leaves.
use Rattle.std.specs.Prelude.{option_map}
use Rattle.ban_list.specs.Bans.{ban_of}
use Rattle.host_io.specs.Outside.{Outside}
use Rattle.log_run.specs.Counts.{IsCounted}
use Rattle.addrman_run.specs.Replay.{ReplayEnds}
use Rattle.addrman_run.specs.Lookup.{LookupEnds}
use Rattle.addrman_run.specs.LookupLines.{LookupLinesEnds}
use Rattle.addrman_run.specs.Address.{AddressEnds}
use Rattle.addrman_run.specs.AddressLines.{AddressLinesEnds}
use Rattle.addrman_run.specs.Check.{CheckEnds}
use Rattle.addrman_run.specs.Decompile.{DecompileEnds}
use Rattle.addrman_run.specs.Diff.{DiffEnds}
use Rattle.addrman_run.specs.Compile.{CompileEnds}
use Rattle.addrman_run.specs.Limit.{LimitEnds}
use Rattle.addrman_run.specs.Opener.{OpenerEnds}
use Rattle.addrman_run.specs.Show.{ShowEnds}
use Rattle.addrman_run.specs.Anchors.{AnchorsEnds}
use Rattle.addrman_run.specs.Picture.{PictureEnds}
use Rattle.addrman_run.specs.Risk.{RiskEnds}
use Rattle.addrman_run.specs.RiskLines.{RiskLinesEnds}
use Rattle.addrman_run.specs.FromRaw.{FromRawEnds}
use Rattle.addrman_run.specs.TablesJson.{GroupsEnds, InfoEnds, RawEnds}
use Rattle.addrman_run.specs.Generate.{GenEnds}
use Rattle.addrman_run.specs.Help.{HelpEnds, VersionEnds}
use Rattle.addrman_run.specs.Trial.{TrialEnds}
use Rattle.addrman_run.specs.Bans.{BansEnds, ListEnds, ban_change, unban_change, banned_change}
use Rattle.arguments.specs.declared.request.Request.{Request}
use Rattle.arguments.specs.declared.request.Request.TheVariants.{Show, Anchors, Picture, Raw, Info, Groups, Risk}
use Rattle.arguments.specs.declared.request.Request.TheVariants.{RiskLines, FromRaw}
use Rattle.arguments.specs.declared.request.Request.TheVariants.{Replay, Opener, Compile, Check, Lookup, LookupLines, Address, AddressLines}
use Rattle.arguments.specs.declared.request.Request.TheVariants.{Decompile, Diff, Limit}
use Rattle.arguments.specs.declared.request.Request.TheVariants.{Ban, Unban, Banned, Bans}
use Rattle.arguments.specs.declared.request.Request.TheVariants.{Gen, Trial, Help, Version}
use Rattle.addrman_run.specs.declared.status.Status.{Status}
use Rattle.addrman_run.specs.declared.status.Status.TheVariants as status

-- how a request ends, from the outside before and after the run and the status
abbrev pub Ends : Request → Outside → Outside → Status → Type 0
Ends (Replay key kind) old new answer = ReplayEnds key kind old new answer
Ends (Opener rules key kind) old new answer = OpenerEnds rules key kind old new answer
Ends Compile old new answer = CompileEnds old new answer
Ends Check old new answer = CheckEnds old new answer
Ends Decompile old new answer = DecompileEnds old new answer
Ends (Diff peers) old new answer = DiffEnds (option_map (λ kind. kind.chain) peers) old new answer
Ends Limit old new answer = LimitEnds old new answer
Ends (Lookup peer) old new answer = LookupEnds peer old new answer
Ends LookupLines old new answer = LookupLinesEnds old new answer
Ends (Address addr) old new answer = AddressEnds addr old new answer
Ends AddressLines old new answer = AddressLinesEnds old new answer
Ends (Show keyed kind) old new answer = ShowEnds keyed kind.chain old new answer
Ends (Anchors chain) old new answer = AnchorsEnds chain old new answer
Ends (Picture colours from) old new answer = PictureEnds colours from old new answer
Ends (Raw kind) old new answer = RawEnds kind old new answer
Ends (Info from) old new answer = InfoEnds from old new answer
Ends (Groups from) old new answer = GroupsEnds from old new answer
Ends (Risk by from) old new answer = RiskEnds by from old new answer
Ends (RiskLines kind) old new answer = RiskLinesEnds kind old new answer
Ends (FromRaw key kind) old new answer = FromRawEnds key kind old new answer
Ends (Ban rule subnet now until) old new answer =
    BansEnds rule (ban_change rule (ban_of subnet now until)) old new answer
Ends (Unban rule subnet) old new answer = BansEnds rule (unban_change subnet) old new answer
Ends (Banned rule peer now) old new answer =
    BansEnds rule (banned_change rule peer.addr now) old new answer
Ends (Bans rule now) old new answer = ListEnds rule now old new answer
Ends (Gen start lines) old new answer = GenEnds start lines old new answer
Ends (Trial start lines) old new answer = TrialEnds start lines old new answer
Ends (Help command) old new answer = HelpEnds command old new answer
Ends Version old new answer = VersionEnds old new answer

-- a fault of the outside comes only if its count rose, and no count falls
pub record HasCause (old new : Outside) (answer : Status) : Type 0 where
  pub log : IsCounted status.ReadFault old.log_faults new.log_faults answer
  pub out : IsCounted status.WriteFault old.out_faults new.out_faults answer
  pub folder : IsCounted status.DiskFault old.folder_faults new.folder_faults answer
