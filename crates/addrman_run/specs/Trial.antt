-- What `trial` writes, and how it ends.
use Rattle.std.specs.Prelude.{◌≡◌, ℕ, List, ◌++◌, length, replicate, codes, decimal, None}
use Rattle.std.specs.List.{concat}
use Rattle.hex.specs.Hex.{encode_lower}
use Rattle.sha2.specs.Sha256.{sha256}
use Rattle.host_io.specs.Lines.{lines_of}
use Rattle.host_io.specs.Outside.{Outside}
use Rattle.gen_load.specs.Log.{log}
use Rattle.log_run.specs.Run.{Run}
use Rattle.manager.specs.Step.{counts_of}
use Rattle.peer_rec.specs.declared.answers.Counts.{Counts}
use Rattle.peers_file.specs.declared.chain.Chain.TheVariants.{Main}
use Rattle.placing.specs.declared.sum.SumRule.TheVariants.{Bytes}
use Rattle.session.specs.History.{History, HistoryStep, fresh}
use Rattle.session.specs.State as session
use Rattle.table_machine.specs.State.{empty_state}
use Rattle.addrman_run.specs.OneText.{OneTextEnds}
use Rattle.addrman_run.specs.Opening.{places_of}
use Rattle.addrman_run.specs.Replay.{at_start}
use Rattle.addrman_run.specs.declared.status.Status.{Status}

-- the session that a trial begins with: empty tables under a key of 32 zero bytes, with no asmap
abbrev pub trial_start : session.SessionState
trial_start = at_start Main (empty_state (places_of Bytes (replicate 32 0) None))

-- the parts of the line about a trial
abbrev pub sizes_text : ℕ → ℕ → List ℕ
sizes_text lines bytes = codes "trial lines " ++ decimal lines ++ codes " replies " ++ decimal bytes

-- A line with the numbers of records and collisions after it.
abbrev pub with_counts : List ℕ → Counts → List ℕ
with_counts text counts =
    text ++ codes " new " ++ decimal counts.new_count
    ++ codes " tried " ++ decimal counts.tried_count
    ++ codes " clashes " ++ decimal counts.clashes

-- A line with the SHA-256 of the replies after it.
abbrev pub with_sum : List ℕ → List ℕ → List ℕ
with_sum text sum = text ++ codes " sum " ++ encode_lower sum ++ codes "\n"

-- the line: how many lines the log has and how many bytes its replies, the counts of the tables
-- after it, and the SHA-256 of the replies
abbrev pub trial_text : ℕ → List ℕ → Counts → List ℕ
trial_text lines replies counts =
    with_sum (with_counts (sizes_text lines (length replies)) counts) (sha256 replies)

-- a line about the run over the generated log of a number
pub record IsTrial (start lines : ℕ) (line : List ℕ) : Type 0 where
  pub replies : List ℕ
  pub last : History
  pub runs : Run HistoryStep (fresh trial_start) (lines_of (concat (log start lines))) replies last
  pub is : line ≡ trial_text lines replies (counts_of last.now.machine.tables)

-- How `trial` ends: it writes the line about the run over the generated log.
abbrev pub TrialEnds : ℕ → ℕ → Outside → Outside → Status → Type 0
TrialEnds start lines = OneTextEnds (IsTrial start lines)
