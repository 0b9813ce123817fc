-- Why a record is lost in a line of a log, and in a run of lines.
use Rattle.std.specs.Prelude.{◌≡◌, ◌⊎◌, ℕ, ◌+◌, ◌<◌, ◌≤◌, List, [], ◌∷◌, ◌++◌, length, Contains, Option, Some, None, ⊤}
use Rattle.net_addr.specs.Address.{Address}
use Rattle.net_addr.specs.declared.peer.Entry.{Entry}
use Rattle.addr_codecs.specs.Layout.{IsAddrMessage, IsAddrv2Message}
use Rattle.peer_rec.specs.declared.rec.Rec.{Rec}
use Rattle.table_machine.specs.Clashes.{after_fate, fate_of}
use Rattle.table_machine.specs.State.{State, by_number}
use Rattle.table_machine.specs.Tried.{good}
use Rattle.log_lines.specs.Spelling.{SpellsCommand}
use Rattle.log_lines.specs.declared.command.Command.{Command}
use Rattle.log_lines.specs.declared.command.Command.TheVariants as command
use Rattle.manager.specs.Machine.{Machine}
use Rattle.taking.specs.Messages.{clamp_time, take_entry}
use Rattle.log_run.specs.Run.{Run}
use Rattle.session.specs.History.{History, HistoryStep}
use Rattle.session.specs.State as session
use Rattle.log_laws.specs.Kept.{IsAfter, most_lines}
use Rattle.table_laws.specs.Losses.{lost_count, made_count, HasRecord, LosesByEntry, LosesBySuccess}

-- the record is lost at an entry of a message, as it was when the entry came
abbrev pub LosesAt : State → ℕ → Option Entry → State → Rec → Type 0
LosesAt old now None new r = ⊥
LosesAt old now (Some entry) new r =
    (was : HasRecord old r) × LosesByEntry old now (clamp_time entry now) new was.0

-- the record is lost at one of the entries; in order, each with the word at its index
abbrev pub LosesByEntries : State → ℕ → List (Option Entry) → Address → List ℕ → Rec → Type 0
LosesByEntries st now [] source words r = ⊥
LosesByEntries st now (entry ∷ entries) source [] r = ⊥
LosesByEntries st now (entry ∷ entries) source (word ∷ words) r =
    let new = (take_entry st now entry source word).state in
    LosesAt st now entry new r ⊎ LosesByEntries new now entries source words r

-- the record is lost at one of the decisions on these collisions, as it was when that came
abbrev pub LosesByDecisions : State → ℕ → List ℕ → Rec → Type 0
LosesByDecisions st now [] r = ⊥
LosesByDecisions st now (number ∷ numbers) r =
    let newcomer = by_number st number in
    let new = after_fate (fate_of st newcomer now) st newcomer number now in
    ((was : HasRecord st r) × LosesBySuccess st new was.0) ⊎ LosesByDecisions new now numbers r

-- The commands by which a record may be lost: messages, a success, and the decisions on all
-- collisions, each of which may be a success.
abbrev pub LosesBy : Machine → Command → Rec → Type 0
LosesBy old (command.Addr source payload words) r =
    (entries : List (Option Entry)) × IsAddrMessage payload entries
    × LosesByEntries old.tables old.clock entries source words r
LosesBy old (command.Addr2 source payload words) r =
    (entries : List (Option Entry)) × IsAddrv2Message payload entries
    × LosesByEntries old.tables old.clock entries source words r
LosesBy old (command.Good peer testing) r =
    LosesBySuccess old.tables (good old.tables old.clock peer testing).state r
LosesBy old command.Resolve r =
    LosesByDecisions old.tables old.clock old.tables.collisions r
LosesBy old other r = ⊥

-- the same of a line
abbrev pub LosesInLine : Machine → List ℕ → Rec → Type 0
LosesInLine old line r = (asked : Command) × SpellsCommand line asked × LosesBy old asked r

-- each record stays over a line, unless it is lost in it
abbrev pub KeepsRecords : Machine → List ℕ → Machine → Type 0
KeepsRecords old line new =
    (r : Rec) → Contains old.tables.records r
    → HasRecord new.tables r ⊎ LosesInLine old line r

-- the command is a message
abbrev pub IsMessage : Command → Type 0
IsMessage (command.Addr source payload words) = ⊤
IsMessage (command.Addr2 source payload words) = ⊤
IsMessage other = ⊥

-- Records are as many as before, with those that were made, and without those that were lost; only
-- messages make any.
pub record CountsAgree (old : Machine) (line : List ℕ) (new : Machine) : Type 0 where
  pub balance : length new.tables.records + lost_count old.tables new.tables
      ≡ length old.tables.records + made_count old.tables new.tables
  pub made : (made_count old.tables new.tables ≡ 0)
      ⊎ ((asked : Command) × SpellsCommand line asked × IsMessage asked)

-- A record that was there when the run began is lost in one of its lines, as it was then.
pub record IsLost (start : History) (lines : List (List ℕ)) (r : Rec) : Type 0 where
  pub before : List (List ℕ)
  pub line : List ℕ
  pub after : List (List ℕ)
  pub cut : lines ≡ before ++ line ∷ after
  pub text : List ℕ
  pub at : History
  pub run : Run HistoryStep start before text at
  pub there : HasRecord at.now.machine.tables r
  pub lost : LosesInLine at.now.machine line there.0

-- What holds after each line of a run: over the next line each record stays or is lost with a
-- cause, and the counts agree; and over the next lines, however many, each record stays or is lost
-- in one of them.
pub record KeepsLosses (st : session.SessionState) (lines : List (List ℕ)) : Type 0 where
  pub next : (before : List (List ℕ)) (h : History) → IsAfter st lines before h
      → (line text : List ℕ) (new : History) → length before < most_lines
      → HistoryStep h line text new → KeepsRecords h.now.machine line new.now.machine
  pub counts : (before : List (List ℕ)) (h : History) → IsAfter st lines before h
      → (line text : List ℕ) (new : History) → length before < most_lines
      → HistoryStep h line text new → CountsAgree h.now.machine line new.now.machine
  pub later : (before : List (List ℕ)) (h : History) → IsAfter st lines before h
      → (more : List (List ℕ)) (text : List ℕ) (new : History)
      → length before + length more ≤ most_lines → Run HistoryStep h more text new
      → (r : Rec) → Contains h.now.machine.tables.records r
      → HasRecord new.now.machine.tables r ⊎ IsLost h more r
