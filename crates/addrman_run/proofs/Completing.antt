-- A run in which nothing is wrong and nothing fails is done, or out of memory.
use Rattle.std.proofs.Common.{◌≡◌, ◌≢◌, ◌≤◌, ◌+◌, ℕ, zero, suc, List, [], ◌∷◌, ◌++◌, length, refl, sym, ap, ◌∙◌, subst, inl, inr, arith}
use Rattle.std.specs.Prelude.{◌⊎◌, ◌<◌, All, IfSome, Option, Some, None, drop}
use Rattle.std.proofs.lemmas.Bool.{ne_eqb}
use Rattle.std.proofs.lemmas.List.Elements.{All-head, All-tail}
use Rattle.addr_limit.specs.Laws.{no_fault as no_limit_fault}
use Rattle.addr_limit.specs.Lines.{FaultAfter, HasEventFault, SaysAfter}
use Rattle.ban_list.specs.declared.ban.Ban.{Ban}
use Rattle.ban_list.specs.declared.ban.BanRule.{BanRule}
use Rattle.host_io.specs.Faults.{Rose, RoseBy}
use Rattle.host_io.specs.Lines.{lines_of, onto_first}
use Rattle.host_io.specs.Outside.{Outside}
use Rattle.host_io.specs.Past.{Past}
use Rattle.host_io.specs.declared.name.Name.TheVariants as name
use Rattle.host_io.specs.declared.name.Name.{Name}
use Rattle.log_lines.proofs.OneMeaning.{spelled_no_fault}
use Rattle.log_lines.specs.Spelling.{HasCommandFault}
use Rattle.grammar.proofs.TableLemmas.{no_fault_after, of_same}
use Rattle.grammar.specs.Fields.{OfPeer, ThePeer}
use Rattle.grammar.specs.Words.{fields_of}
use Rattle.grammar.specs.declared.fault.LineFault.{LineFault}
use Rattle.log_run.specs.Log.{HasNoFeed}
use Rattle.log_run.specs.Run.{Ran, Steps, Streams}
use Rattle.log_run.specs.declared.run.LogEnd.TheVariants as end
use Rattle.log_run.specs.declared.run.LogEnd.{LogEnd}
use Rattle.log_run.specs.declared.sizes.TheConstants.{MAX_LINE, MAX_LOG}
use Rattle.opener_lines.proofs.OneMeaning.{asked_no_fault}
use Rattle.opener_lines.specs.Grammar.{HasRequestFault}
use Rattle.peer_open.specs.declared.rules.OpenRules.{OpenRules}
use Rattle.peers_file.specs.declared.chain.Chain.{Chain}
use Rattle.arguments.specs.declared.file_kind.FileKind.{FileKind}
use Rattle.raw_file.specs.Faults.{HasListingFault}
use Rattle.raw_file.specs.Input.{IsInput, IsLong}
use Rattle.raw_file.specs.Listing.{first_fault}
use Rattle.raw_file.specs.declared.fault.ListingFault.{ListingFault}
use Rattle.raw_file.specs.declared.fault.ListingFault.TheVariants as fault
use Rattle.raw_read.proofs.RawLaws.{no_raw_fault, one_raw}
use Rattle.raw_read.specs.declared.raw.RawFault.TheVariants as raw
use Rattle.raw_read.specs.declared.read.TheConstants.{MAX_TEXT}
use Rattle.risk_parts.specs.declared.addr_set.AddrSet.{AddrSet}
use Rattle.addrman_run.specs.Bans.{BansEnds, Change, ReportsBans}
use Rattle.addrman_run.specs.Compile.{CompileEnds}
use Rattle.addrman_run.specs.Complete.{IsAddressLine, IsComplete, IsGoodListing, IsGoodLog, IsLimitLine, IsLookupLine, IsOpenerLine, IsReplayLine, IsSetLine, IsUsable, NoRefusal, NeedsFolder, NoSaveFails, NothingFails, NothingIsWrong}
use Rattle.addrman_run.specs.Opening.{ReportsOpening, ReportsTables}
use Rattle.addrman_run.specs.RiskLines.{HasSetFault, LacksTables, RiskLinesEnds, RiskedSets, SetStep, SetsRead, Writes, WritesAfter}
use Rattle.addrman_run.specs.FileLine.{FileLineEnds}
use Rattle.addrman_run.specs.FromRaw.{FromRawEnds, RefusesListing}
use Rattle.addrman_run.specs.Generate.{GenText}
use Rattle.addrman_run.specs.Limit.{LimitEnds, Limited}
use Rattle.addrman_run.specs.Log.{LogOutcome, streams_of}
use Rattle.addrman_run.specs.OneText.{OneText}
use Rattle.addrman_run.specs.Opener.{OpenerEnds, OpenerRan}
use Rattle.addrman_run.specs.Outcome.{Ends, HasCause}
use Rattle.addrman_run.specs.LookupLines.{HasPeerFault, LacksMap, LookedUp, LookupLinesEnds}
use Rattle.addrman_run.specs.Replay.{IsUntouched, NotOpened, ReplayEnds, Replayed}
use Rattle.addrman_run.specs.AddressLines.{AddressLinesEnds, Described, HasAddressFault}
use Rattle.addrman_run.specs.Asmaps.{IsNoMap, ReportsAsmap}
use Rattle.addrman_run.specs.Tables.{ReportsTable}
use Rattle.addrman_run.specs.TextOut.{TextEnds}
use Rattle.arguments.specs.declared.request.Request.TheVariants as request
use Rattle.arguments.specs.declared.request.Request.{Request}
use Rattle.addrman_run.specs.declared.status.Status.TheVariants.{Done, LogLine, PeersRefused, AsmapRefused, ReadFault, WriteFault, DiskFault, LogTooLong, NoKey, Memory, LineTooLong, NoFile, RawRefused}
use Rattle.addrman_run.specs.declared.status.Status.{Status}

-- no count of faults rose, that of the folder perhaps after bytes of the log were taken
record Calm (old new : Outside) : Type 0 where
  log : ¬ Rose old.log_faults new.log_faults
  out : ¬ Rose old.out_faults new.out_faults
  folder : new.left ≡ old.left → ¬ Rose old.folder_faults new.folder_faults

-- done, or out of memory
abbrev IsDone : Status → Type 0
IsDone answer = (answer ≡ Done) ⊎ (answer ≡ Memory)

-- ---- a log without errors

-- the length of the first line, 0 if there is none
abbrev first_length : List (List ℕ) → ℕ
first_length [] = 0
first_length (line ∷ lines) = length line

first_onto : (b : ℕ) (lines : List (List ℕ)) → first_length (onto_first b lines) ≡ suc (first_length lines)
first_onto b [] = refl
first_onto b (line ∷ lines) = refl

lines_onto : (b : ℕ) (bytes : List ℕ) → (b ≡ 10 → ⊥) → lines_of (b ∷ bytes) ≡ onto_first b (lines_of bytes)
unfolding lines_of
lines_onto b bytes h = rw (ne_eqb b 10 h) refl

-- bytes without a line feed are in one line
one_line : (first more : List ℕ) → HasNoFeed first → length first ≤ first_length (lines_of (first ++ more))
one_line [] more none = omega arith
one_line (b ∷ first) more none =
    let is = ap first_length (lines_onto b (first ++ more) (none 0 0 (omega arith))) ∙ first_onto b (lines_of (first ++ more)) in
    omega (arith, is, one_line first more (All-tail (λ c. c ≢ 10) b first none))

first_within : (most : ℕ) (lines : List (List ℕ)) → All (λ line. length line ≤ most) lines → first_length lines ≤ most
first_within most [] all = omega arith
first_within most (line ∷ lines) all = all 0 [] (omega arith)

all_after : {X : Type 0} (P : X → Type 0) (xs ys : List X) → All P (xs ++ ys) → All P ys
all_after P [] ys all = all
all_after P (x ∷ xs) ys all = all_after P xs ys (All-tail P x (xs ++ ys) all)

none_some : {T : Type 0} (x : T) → ◌≡◌ {A = Option T} None (Some x) → ⊥
none_some x is = cc

none_more : (n : ℕ) (more : List ℕ) → n + length more ≤ n → more ≡ []
none_more n [] few = refl
none_more n (b ∷ more) few = absurd (omega (arith, few))

module _ {S : Type 0} (step : Steps S) (has_fault : List ℕ → LineFault → Type 0) (begins : S) (IsLine : List ℕ → Type 0)
    (right : (line : List ℕ) (fault : LineFault) → IsLine line → has_fault line fault → ⊥)
    (old new : Streams) (good : IsGoodLog IsLine old.left) where
  same_log : (how : LogEnd) (ran : Ran step has_fault begins old new how) → ran.log ≡ good.log
  same_log how ran = subst (λ left. IfSome left (λ bytes. ran.log ≡ bytes)) good.known ran.known

  split : (how : LogEnd) (ran : Ran step has_fault begins old new how) → lines_of good.log ≡ ran.carried ++ lines_of ran.next
  split how ran = ap lines_of (sym (same_log how ran)) ∙ ran.begins.split

  pub no_fault : (n : ℕ) (fault : LineFault) → Ran step has_fault begins old new (end.Fault n fault) → ⊥
  no_fault n fault ran =
      let (line, after, next, why, near) = ran.ends.2 in
      let all = subst (All IsLine) (split _ ran ∙ ap (λ lines. ran.carried ++ lines) next.split) good.right in
      right line fault (All-head IsLine line (lines_of after) (all_after IsLine ran.carried (line ∷ lines_of after) all)) why

  pub no_long_line : (n : ℕ) → Ran step has_fault begins old new (end.LineTooLong n) → ⊥
  no_long_line n ran =
      let (first, more, next, long, near) = ran.ends.2 in
      let short = subst (All (λ line. length line ≤ MAX_LINE)) (split _ ran) good.short in
      let rest = subst (λ bytes. All (λ line. length line ≤ MAX_LINE) (lines_of bytes)) next.whole
      (all_after (λ line. length line ≤ MAX_LINE) ran.carried (lines_of ran.next) short) in
      omega (arith, long, one_line first more next.no_feed, first_within MAX_LINE (lines_of (first ++ more)) rest)

  pub no_long_log : Ran step has_fault begins old new end.LogTooLong → ⊥
  no_long_log ran =
      let (first, more, next, short, long, some, left) = ran.ends.1 in
      some (none_more MAX_LOG more (omega (arith, ap length (same_log _ ran), long, good.within)))

-- ---- each command

replay_line : (line : List ℕ) (fault : LineFault) → IsReplayLine line → HasCommandFault line fault → ⊥
replay_line line fault (inl passed) why = why.0 passed
replay_line line fault (inr (command, spells)) why = spelled_no_fault line command fault spells why

opener_line : (line : List ℕ) (fault : LineFault) → IsOpenerLine line → HasRequestFault line fault → ⊥
opener_line line fault (inl passed) why = why.0 passed
opener_line line fault (inr (asked, asks)) why = asked_no_fault line asked fault asks why

limit_line : (line : List ℕ) (fault : LineFault) → IsLimitLine line → HasEventFault line fault → ⊥
limit_line line fault (event, says) why = of_same {C = λ a f. ⊥} SaysAfter FaultAfter no_limit_fault (fields_of line) event fault says why

lookup_line : (line : List ℕ) (fault : LineFault) → IsLookupLine line → HasPeerFault line fault → ⊥
lookup_line line fault (inl passed) why = why.0 passed
lookup_line line fault (inr (peer, is)) why = no_fault_after (Some (OfPeer ∷ [])) (fields_of line) (ThePeer peer ∷ []) fault is why.1

address_line : (line : List ℕ) (fault : LineFault) → IsAddressLine line → HasAddressFault line fault → ⊥
address_line line fault (inl passed) why = why.0 passed
address_line line fault (inr (a, is)) why = why.2 a is

set_line : (line : List ℕ) (fault : LineFault) → IsSetLine line → HasSetFault line fault → ⊥
set_line line fault (inl passed) why = why.0 passed
set_line line fault (inr (own, is)) why = why.2 own is

-- the folder did not fail if the log is as it was
no_disk_fault : (old new : Outside) → HasCause old new DiskFault → Calm old new → new.left ≡ old.left → ⊥
no_disk_fault old new cause calm same = calm.folder same (cause.folder.1 refl)

no_write_fault : (old new : Outside) → HasCause old new WriteFault → Calm old new → ⊥
no_write_fault old new cause calm = calm.out (cause.out.1 refl)

no_read_fault : (old new : Outside) → HasCause old new ReadFault → Calm old new → ⊥
no_read_fault old new cause calm = calm.log (cause.log.1 refl)

-- a command that carries out the lines of a log
log_done : (Runs : LogEnd → Type 0) (Stops : Status → Type 0) (old new : Outside) (answer : Status) → LogOutcome Runs Stops answer → HasCause old new answer
    → Calm old new → ((n : ℕ) (fault : LineFault) → Runs (end.Fault n fault) → ⊥) → ((n : ℕ) → Runs (end.LineTooLong n) → ⊥)
    → (Runs end.LogTooLong → ⊥) → (HasCause old new answer → Stops answer → IsDone answer) → IsDone answer
log_done Runs Stops old new Done ends cause calm fault long whole stops = inl refl
log_done Runs Stops old new Memory ends cause calm fault long whole stops = inr refl
log_done Runs Stops old new (LogLine n f) ends cause calm fault long whole stops = absurd (fault n f ends)
log_done Runs Stops old new (LineTooLong n) ends cause calm fault long whole stops = absurd (long n ends)
log_done Runs Stops old new LogTooLong ends cause calm fault long whole stops = absurd (whole ends)
log_done Runs Stops old new ReadFault ends cause calm fault long whole stops = absurd (no_read_fault old new cause calm)
log_done Runs Stops old new WriteFault ends cause calm fault long whole stops = absurd (no_write_fault old new cause calm)
log_done Runs Stops old new other ends cause calm fault long whole stops = stops cause ends

-- why no tables were opened
unopened_done : (key : Option (List ℕ)) (chain : Chain) (old new : Outside) (answer : Status) → NoRefusal (ReportsOpening key chain old.past) → Calm old new
    → HasCause old new answer → NotOpened key chain old new answer → IsDone answer
unopened_done key chain old new Memory fine calm cause is = inr refl
unopened_done key chain old new DiskFault fine calm cause is = absurd (no_disk_fault old new cause calm is.1.log.0)
unopened_done key chain old new (AsmapRefused fault) fine calm cause is = absurd (fine (AsmapRefused fault) is.0)
unopened_done key chain old new (PeersRefused fault) fine calm cause is = absurd (fine (PeersRefused fault) is.0)
unopened_done key chain old new NoKey fine calm cause is = absurd (fine NoKey is.0)
unopened_done key chain old new other fine calm cause is = absurd is.0

replay_done : (key : Option (List ℕ)) (kind : FileKind) (old new : Outside) (answer : Status) → ReplayEnds key kind old new answer → HasCause old new answer
    → IsGoodLog IsReplayLine old.left × NoRefusal (ReportsOpening key kind.chain old.past) → Calm old new → IsDone answer
replay_done key kind old new answer ends cause fine calm =
    log_done (Replayed key kind old new) (NotOpened key kind.chain old new) old new answer ends.outcome cause calm
    (λ n fault run. no_fault _ _ _ IsReplayLine replay_line _ _ fine.0 n fault run.ran)
    (λ n run. no_long_line _ _ _ IsReplayLine replay_line _ _ fine.0 n run.ran)
    (λ run. no_long_log _ _ _ IsReplayLine replay_line _ _ fine.0 run.ran)
    (unopened_done key kind.chain old new answer fine.1 calm)

opener_done : (rules : OpenRules) (key : Option (List ℕ)) (kind : FileKind) (old new : Outside) (answer : Status) → OpenerEnds rules key kind old new answer → HasCause old new answer
    → IsGoodLog IsOpenerLine old.left × NoRefusal (ReportsOpening key kind.chain old.past) → Calm old new → IsDone answer
opener_done rules key kind old new answer ends cause fine calm =
    log_done (OpenerRan rules key kind old new) (NotOpened key kind.chain old new) old new answer ends.outcome cause calm
    (λ n fault run. no_fault _ _ _ IsOpenerLine opener_line _ _ fine.0 n fault run.ran)
    (λ n run. no_long_line _ _ _ IsOpenerLine opener_line _ _ fine.0 n run.ran)
    (λ run. no_long_log _ _ _ IsOpenerLine opener_line _ _ fine.0 run.ran)
    (unopened_done key kind.chain old new answer fine.1 calm)

limit_done : (old new : Outside) (answer : Status) → LimitEnds old new answer → HasCause old new answer → IsGoodLog IsLimitLine old.left → Calm old new → IsDone answer
limit_done old new answer ends cause fine calm =
    log_done (Limited (streams_of old) (streams_of new)) (λ other. ⊥) old new answer ends.outcome cause calm
    (λ n fault run. no_fault _ _ _ IsLimitLine limit_line _ _ fine n fault run.ran)
    (λ n run. no_long_line _ _ _ IsLimitLine limit_line _ _ fine n run.ran)
    (λ run. no_long_log _ _ _ IsLimitLine limit_line _ _ fine run.ran)
    (λ cause none. absurd none)

-- why there is no asmap to look addresses up in
no_map_done : (old new : Outside) (answer : Status) → IsUsable name.Asmap ReportsAsmap old.past → Calm old new → HasCause old new answer
    → LacksMap old.past answer × IsUntouched old new → IsDone answer
no_map_done old new Memory fine calm cause is = inr refl
no_map_done old new DiskFault fine calm cause is = absurd (no_disk_fault old new cause calm is.1.log.0)
no_map_done old new (NoFile file) fine calm cause is = absurd (fine.0 is.0.1)
no_map_done old new other fine calm cause is = absurd (fine.1 other is.0)

lookup_lines_done : (old new : Outside) (answer : Status) → LookupLinesEnds old new answer → HasCause old new answer
    → IsGoodLog IsLookupLine old.left × IsUsable name.Asmap ReportsAsmap old.past → Calm old new → IsDone answer
lookup_lines_done old new answer ends cause fine calm =
    log_done (LookedUp old.past (streams_of old) (streams_of new)) (λ other. LacksMap old.past other × IsUntouched old new) old new answer ends.outcome cause calm
    (λ n fault run. no_fault _ _ _ IsLookupLine lookup_line _ _ fine.0 n fault run.answered.ran)
    (λ n run. no_long_line _ _ _ IsLookupLine lookup_line _ _ fine.0 n run.answered.ran)
    (λ run. no_long_log _ _ _ IsLookupLine lookup_line _ _ fine.0 run.answered.ran)
    (no_map_done old new answer fine.1 calm)

-- why the asmap is not read under which addresses are described
bad_map_done : (old new : Outside) (answer : Status) → NoRefusal (ReportsAsmap old.past) → Calm old new → HasCause old new answer
    → IsNoMap old.past answer × IsUntouched old new → IsDone answer
bad_map_done old new Memory fine calm cause is = inr refl
bad_map_done old new DiskFault fine calm cause is = absurd (no_disk_fault old new cause calm is.1.log.0)
bad_map_done old new other fine calm cause is = absurd (fine other is.0)

address_lines_done : (old new : Outside) (answer : Status) → AddressLinesEnds old new answer → HasCause old new answer
    → IsGoodLog IsAddressLine old.left × NoRefusal (ReportsAsmap old.past) → Calm old new → IsDone answer
address_lines_done old new answer ends cause fine calm =
    log_done (Described old.past (streams_of old) (streams_of new)) (λ other. IsNoMap old.past other × IsUntouched old new) old new answer ends.outcome cause calm
    (λ n fault run. no_fault _ _ _ IsAddressLine address_line _ _ fine.0 n fault run.answered.ran)
    (λ n run. no_long_line _ _ _ IsAddressLine address_line _ _ fine.0 n run.answered.ran)
    (λ run. no_long_log _ _ _ IsAddressLine address_line _ _ fine.0 run.answered.ran)
    (bad_map_done old new answer fine.1 calm)

-- why no tables were opened
no_tables_done : (kind : FileKind) (old new : Outside) (answer : Status) → NoRefusal (ReportsTables kind.chain old.past) → Calm old new → HasCause old new answer
    → LacksTables kind old.past answer × IsUntouched old new → IsDone answer
no_tables_done kind old new Memory fine calm cause is = inr refl
no_tables_done kind old new DiskFault fine calm cause is = absurd (no_disk_fault old new cause calm is.1.log.0)
no_tables_done kind old new other fine calm cause is = absurd (fine other is.0)

-- an end that no writing has is that of the reading
module _ (old middle new : Streams) (how : LogEnd) (text : List ℕ) (sets : List AddrSet) (never : (a b : Option (List ℕ)) → Writes text a b how → ⊥) where
  with_end : (read : LogEnd) → SetsRead old middle sets read → how ≡ read → Ran SetStep HasSetFault [] old middle how
  with_end read lines is = subst (λ e. Ran SetStep HasSetFault [] old middle e) (sym is) lines.ran

  read_to : (read : LogEnd) → SetsRead old middle sets read → WritesAfter read text middle new how → Ran SetStep HasSetFault [] old middle how
  read_to end.Done lines is = absurd (never middle.written new.written is.1)
  read_to (end.Fault n fault) lines is = with_end (end.Fault n fault) lines is.0
  read_to (end.LineTooLong n) lines is = with_end (end.LineTooLong n) lines is.0
  read_to end.LogTooLong lines is = with_end end.LogTooLong lines is.0
  read_to end.ReadFault lines is = with_end end.ReadFault lines is.0
  read_to end.WriteFault lines is = with_end end.WriteFault lines is.0
  read_to end.Memory lines is = with_end end.Memory lines is.0

risk_lines_done : (kind : FileKind) (old new : Outside) (answer : Status) → RiskLinesEnds kind old new answer → HasCause old new answer
    → IsGoodLog IsSetLine old.left → NoRefusal (ReportsTables kind.chain old.past) → Calm old new → IsDone answer
risk_lines_done kind old new answer ends cause fine good calm =
    log_done (RiskedSets kind old.past (streams_of old) (streams_of new)) (λ other. LacksTables kind old.past other × IsUntouched old new) old new answer ends.outcome cause calm
    (λ n fault run. no_fault SetStep HasSetFault [] IsSetLine set_line (streams_of old) run.ran.middle fine n fault
    (read_to (streams_of old) run.ran.middle (streams_of new) (end.Fault n fault) _ run.ran.sets (λ a b none. none) run.ran.read run.ran.lines run.ran.wrote))
    (λ n run. no_long_line SetStep HasSetFault [] IsSetLine set_line (streams_of old) run.ran.middle fine n
    (read_to (streams_of old) run.ran.middle (streams_of new) (end.LineTooLong n) _ run.ran.sets (λ a b none. none) run.ran.read run.ran.lines run.ran.wrote))
    (λ run. no_long_log SetStep HasSetFault [] IsSetLine set_line (streams_of old) run.ran.middle fine
    (read_to (streams_of old) run.ran.middle (streams_of new) end.LogTooLong _ run.ran.sets (λ a b none. none) run.ran.read run.ran.lines run.ran.wrote))
    (no_tables_done kind old new answer good calm)

-- a command that loads one file and writes a line about it
file_line_done : (name : Name) (IsLine : Option Past → List ℕ → Type 0) (Refuses : Option Past → Status → Type 0) (old new : Outside) (answer : Status)
    → FileLineEnds name IsLine Refuses old new answer → HasCause old new answer → IsUsable name Refuses old.past → Calm old new → IsDone answer
file_line_done name IsLine Refuses old new Done ends cause fine calm = inl refl
file_line_done name IsLine Refuses old new Memory ends cause fine calm = inr refl
file_line_done name IsLine Refuses old new WriteFault ends cause fine calm = absurd (no_write_fault old new cause calm)
file_line_done name IsLine Refuses old new DiskFault ends cause fine calm = absurd (no_disk_fault old new cause calm ends.left.0)
file_line_done name IsLine Refuses old new (NoFile file) ends cause fine calm = absurd (fine.0 ends.text.1)
file_line_done name IsLine Refuses old new other ends cause fine calm = absurd (fine.1 other ends.text.0)

-- a command that needs no file, and writes a text
text_done : (IsText : Option Past → List ℕ → Type 0) (Refuses : Option Past → Status → Type 0) (old new : Outside) (answer : Status)
    → TextEnds IsText Refuses old new answer → HasCause old new answer → NoRefusal (Refuses old.past) → Calm old new → IsDone answer
text_done IsText Refuses old new Done ends cause fine calm = inl refl
text_done IsText Refuses old new Memory ends cause fine calm = inr refl
text_done IsText Refuses old new WriteFault ends cause fine calm = absurd (no_write_fault old new cause calm)
text_done IsText Refuses old new DiskFault ends cause fine calm = absurd (no_disk_fault old new cause calm ends.left.0)
text_done IsText Refuses old new other ends cause fine calm = absurd (fine other ends.text.0)

compile_done : (old new : Outside) (answer : Status) → CompileEnds old new answer → HasCause old new answer → IsUsable name.Prefixes ReportsTable old.past → Calm old new → IsDone answer
compile_done old new Done ends cause fine calm = inl refl
compile_done old new Memory ends cause fine calm = inr refl
compile_done old new WriteFault ends cause fine calm = absurd (no_write_fault old new cause calm)
compile_done old new DiskFault ends cause fine calm = absurd (no_disk_fault old new cause calm ends.left.0)
compile_done old new (NoFile file) ends cause fine calm = absurd (fine.0 ends.text.1)
compile_done old new other ends cause fine calm = absurd (fine.1 other ends.text.0)

bans_done : (rule : BanRule) (change : List Ban → Change) (old new : Outside) (answer : Status) → BansEnds rule change old new answer → HasCause old new answer → NoRefusal (ReportsBans rule old.past) → Calm old new → IsDone answer
bans_done rule change old new Done ends cause fine calm = inl refl
bans_done rule change old new Memory ends cause fine calm = inr refl
bans_done rule change old new WriteFault ends cause fine calm = absurd (no_write_fault old new cause calm)
bans_done rule change old new DiskFault ends cause fine calm = absurd (no_disk_fault old new cause calm ends.left.0)
bans_done rule change old new other ends cause fine calm = absurd (fine other ends.text.0)

gen_done : (first count : ℕ) (old new : Outside) (answer : Status) → GenText first count old.written new.written answer → HasCause old new answer → Calm old new → IsDone answer
gen_done first count old new Done text cause calm = inl refl
gen_done first count old new Memory text cause calm = inr refl
gen_done first count old new WriteFault text cause calm = absurd (no_write_fault old new cause calm)
gen_done first count old new other text cause calm = absurd text

one_text_done : (IsText : List ℕ → Type 0) (old new : Outside) (answer : Status) → OneText IsText old.written new.written answer → HasCause old new answer → Calm old new → IsDone answer
one_text_done IsText old new Done text cause calm = inl refl
one_text_done IsText old new Memory text cause calm = inr refl
one_text_done IsText old new WriteFault text cause calm = absurd (no_write_fault old new cause calm)
one_text_done IsText old new other text cause calm = absurd text

-- ---- a listing

module _ (left after : Option (List ℕ)) (good : IsGoodListing left) where
  no_listing_fault : (why : ListingFault) → HasListingFault good.text why → ⊥
  no_listing_fault (fault.Text why) has = no_raw_fault good.text good.raw why good.right has
  no_listing_fault (fault.Again table bucket position) has = apart (fault.Again table bucket position) (ap first_fault (one_raw good.text good.raw has.0 good.right has.1)) has.2
    where
      apart : (why : ListingFault) → first_fault good.raw ≡ first_fault has.0 → first_fault has.0 ≡ Some why → ⊥
      apart why same is = none_some why (sym good.once ∙ same ∙ is)
  no_listing_fault fault.Memory has = none_some fault.Memory (sym good.once ∙ ap first_fault (one_raw good.text good.raw has.0 good.right has.1) ∙ has.2)

  not_long : IsLong MAX_TEXT left after → ⊥
  not_long long =
      let more : MAX_TEXT < length good.text = (subst (λ o. IfSome o (λ l. (MAX_TEXT < length l) × (after ≡ Some (drop (MAX_TEXT + 1) l)))) good.known long).0 in
      omega (arith, more, good.within)

  not_read : (text : List ℕ) (why : ListingFault) → IsInput MAX_TEXT left after text → HasListingFault text why → ⊥
  not_read text why input has =
      let same : good.text ≡ text = (subst (λ o. IfSome o (λ l. (l ≡ text) × (after ≡ Some []))) good.known input.1).0 in
      no_listing_fault why (subst (λ t. HasListingFault t why) (sym same) has)

  not_refused : (why : ListingFault) → RefusesListing left after why → ⊥
  not_refused (fault.Text raw.TooLarge) is = not_long is
  not_refused (fault.Text raw.Json) is = not_read is.0 (fault.Text raw.Json) is.1 is.3
  not_refused (fault.Text raw.Form) is = not_read is.0 (fault.Text raw.Form) is.1 is.3
  not_refused (fault.Text (raw.Slot table index)) is = not_read is.0 (fault.Text (raw.Slot table index)) is.1 is.3
  not_refused (fault.Text (raw.Row table bucket position field)) is = not_read is.0 (fault.Text (raw.Row table bucket position field)) is.1 is.3
  not_refused (fault.Text raw.Memory) is = not_read is.0 (fault.Text raw.Memory) is.1 is.3
  not_refused (fault.Again table bucket position) is = not_read is.0 (fault.Again table bucket position) is.1 is.3
  not_refused fault.Memory is = not_read is.0 fault.Memory is.1 is.3

from_raw_done : (key : List ℕ) (kind : FileKind) (old new : Outside) (answer : Status) → FromRawEnds key kind old new answer → HasCause old new answer
    → IsGoodListing old.left × NoRefusal (ReportsAsmap old.past) → Calm old new → ¬ Rose old.folder_faults new.folder_faults → IsDone answer
from_raw_done key kind old new Done ends cause fine calm still = inl refl
from_raw_done key kind old new Memory ends cause fine calm still = inr refl
from_raw_done key kind old new WriteFault ends cause fine calm still = absurd (no_write_fault old new cause calm)
from_raw_done key kind old new ReadFault ends cause fine calm still = absurd (no_read_fault old new cause calm)
from_raw_done key kind old new DiskFault ends cause fine calm still = absurd (still (cause.folder.1 refl))
from_raw_done key kind old new (AsmapRefused why) ends cause fine calm still = absurd (fine.1 (AsmapRefused why) ends.outcome.0)
from_raw_done key kind old new (RawRefused why) ends cause fine calm still = absurd (not_refused old.left new.left fine.0 why ends.outcome.1)
from_raw_done key kind old new other ends cause fine calm still = absurd ends.outcome

-- ---- the saves of a replay

none_failed : (n before after : ℕ) → ¬ Rose before after → RoseBy n before after → n ≡ 0
none_failed zero before after still rose = refl
none_failed (suc n) before after still (inl rose) = absurd (still (inl (omega (arith, rose))))
none_failed (suc n) before after still (inr rose) = absurd (still rose.1)

no_save_fails : (request : Request) (old new : Outside) → NoSaveFails request old new
no_save_fails (request.Replay key kind) old new = λ still how run. none_failed _ old.folder_faults new.folder_faults still run.failed_saves
no_save_fails other old new = tt

-- ---- any request

done_if : (request : Request) (old new : Outside) (answer : Status) → Ends request old new answer → HasCause old new answer → NothingIsWrong request old → Calm old new
    → (NeedsFolder request old new → ¬ Rose old.folder_faults new.folder_faults) → IsDone answer
done_if (request.Replay key kind) old new answer ends cause fine calm still = replay_done key kind old new answer ends cause fine calm
done_if (request.Opener rules key kind) old new answer ends cause fine calm still = opener_done rules key kind old new answer ends cause fine calm
done_if request.Compile old new answer ends cause fine calm still = compile_done old new answer ends cause fine calm
done_if request.Check old new answer ends cause fine calm still = file_line_done _ _ _ old new answer ends cause fine calm
done_if request.Decompile old new answer ends cause fine calm still = file_line_done _ _ _ old new answer ends cause fine calm
done_if (request.Diff peers) old new answer ends cause fine calm still = text_done _ _ old new answer ends.ends cause fine calm
done_if request.Limit old new answer ends cause fine calm still = limit_done old new answer ends cause fine calm
done_if (request.Lookup peer) old new answer ends cause fine calm still = file_line_done _ _ _ old new answer ends cause fine calm
done_if request.LookupLines old new answer ends cause fine calm still = lookup_lines_done old new answer ends cause fine calm
done_if (request.Address addr) old new answer ends cause fine calm still = text_done _ _ old new answer ends cause fine calm
done_if request.AddressLines old new answer ends cause fine calm still = address_lines_done old new answer ends cause fine calm
done_if (request.Show keyed kind) old new answer ends cause fine calm still = file_line_done _ _ _ old new answer ends cause fine calm
done_if (request.Anchors chain) old new answer ends cause fine calm still = file_line_done _ _ _ old new answer ends cause fine calm
done_if (request.Picture colours from) old new answer ends cause fine calm still = text_done _ _ old new answer ends.ends cause fine calm
done_if (request.Raw kind) old new answer ends cause fine calm still = text_done _ _ old new answer ends.ends cause fine calm
done_if (request.Info from) old new answer ends cause fine calm still = text_done _ _ old new answer ends.ends cause fine calm
done_if (request.Groups from) old new answer ends cause fine calm still = text_done _ _ old new answer ends.ends cause fine calm
done_if (request.Risk by tables) old new answer ends cause fine calm still = text_done _ _ old new answer ends.ends cause fine calm
done_if (request.RiskLines kind) old new answer ends cause fine calm still = risk_lines_done kind old new answer ends cause fine.0 fine.1 calm
done_if (request.FromRaw key kind) old new answer ends cause fine calm still = from_raw_done key kind old new answer ends cause fine calm (still tt)
done_if (request.Ban rule subnet now until) old new answer ends cause fine calm still = bans_done _ _ old new answer ends cause fine calm
done_if (request.Unban rule subnet) old new answer ends cause fine calm still = bans_done _ _ old new answer ends cause fine calm
done_if (request.Banned rule peer now) old new answer ends cause fine calm still = bans_done _ _ old new answer ends cause fine calm
done_if (request.Bans rule now) old new answer ends cause fine calm still = text_done _ _ old new answer ends cause fine calm
done_if (request.Gen first count) old new answer ends cause fine calm still = gen_done first count old new answer ends.text cause calm
done_if (request.Trial first count) old new answer ends cause fine calm still = one_text_done _ old new answer ends.text cause calm
done_if (request.Help command) old new answer ends cause fine calm still = one_text_done _ old new answer ends.text cause calm
done_if request.Version old new answer ends cause fine calm still = one_text_done _ old new answer ends.text cause calm

calm_of : (request : Request) (old new : Outside) → NothingFails request old new → Calm old new
calm_of (request.FromRaw key kind) old new calm = record { log = calm.log; out = calm.out; folder = λ same. calm.folder tt }
calm_of other old new calm = record { log = calm.log; out = calm.out; folder = calm.folder }

pub complete : (request : Request) (old new : Outside) (answer : Status) → Ends request old new answer → HasCause old new answer → IsComplete request old new answer
complete request old new answer ends cause = record { done = λ fine calm. done_if request old new answer ends cause fine (calm_of request old new calm) calm.folder; saved = no_save_fails request old new }
