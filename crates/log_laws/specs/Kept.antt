-- What holds after each line of a run.
use Rattle.std.specs.Prelude.{◌≡◌, ℕ, ◌≤◌, ◌<◌, ◌^◌, List, ◌++◌, length, Option, Some, None}
use Rattle.placing.specs.Places.{Places}
use Rattle.peer_rec.specs.Snapshot.{Snapshot}
use Rattle.session.specs.History.{History, HistoryStep, fresh}
use Rattle.log_run.specs.Run.{Run}
use Rattle.session.specs.State.{SessionState}
use Rattle.table_machine.specs.Restoring.{restored}
use Rattle.table_machine.specs.Sound.{IsSound}
use Rattle.table_machine.specs.State as tables
use Rattle.log_laws.specs.Accepted.{IsAccepted}
use Rattle.log_laws.specs.Buckets.{AreCaused, IsBounded, IsListed}
use Rattle.log_laws.specs.Tried.{KeepsTried}

-- the tables that a run begins with: those of a file, or empty ones
abbrev pub opened : Option Snapshot → Places → tables.State
opened None places = tables.empty_state places
opened (Some snap) places = restored snap places

-- A session begins: with such tables, which are sound, at a time of 32 bits.
pub record IsOpening (file : Option Snapshot) (places : Places) (st : SessionState) : Type 0 where
  pub tables : st.machine.tables ≡ opened file places
  pub sound : IsSound st.machine.tables
  pub clock : st.machine.clock < 2 ^ 32
  pub numbers : st.machine.tables.next_number < 2 ^ 61

-- a log has 2^30 bytes at most, and no more lines than bytes
abbrev pub most_lines : ℕ
most_lines = 2 ^ 30

-- the run has come to h after these first lines of a log
pub record IsAfter (st : SessionState) (lines before : List (List ℕ)) (h : History) : Type 0 where
  pub after : List (List ℕ)
  pub cut : lines ≡ before ++ after
  pub few : length before ≤ most_lines
  pub text : List ℕ
  pub run : Run HistoryStep (fresh st) before text h

-- What holds after each line of a run that began with the tables of a file, or with empty ones.
-- Each state is sound. Each bucket has a cause, and sources reach few of them. And over the next
-- line each tried record stays, unless another one displaces it.
pub record KeepsCauses (file : Option Snapshot) (places : Places) (st : SessionState)
    (lines : List (List ℕ)) : Type 0 where
  pub sound : (before : List (List ℕ)) (h : History) → IsAfter st lines before h
      → IsSound h.now.machine.tables
  pub same_places : (before : List (List ℕ)) (h : History) → IsAfter st lines before h
      → h.now.machine.tables.places ≡ places
  pub causes : (before : List (List ℕ)) (h : History) → IsAfter st lines before h
      → AreCaused (IsAccepted st before) (IsListed file places) h.now.machine.tables
  pub reach : (before : List (List ℕ)) (h : History) → IsAfter st lines before h
      → IsBounded (IsAccepted st before) h.now.machine.tables
  pub tried : (before : List (List ℕ)) (h : History) → IsAfter st lines before h
      → (line text : List ℕ) (next : History) → HistoryStep h line text next
      → KeepsTried h.now.machine line next.now.machine
