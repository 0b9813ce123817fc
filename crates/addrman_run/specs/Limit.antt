-- What the limit on received addresses writes for the lines of a log, and how it ends.
use Rattle.std.specs.Prelude.{◌≡◌, ℕ, ◌+◌, ◌<◌, ◌^◌, List, [], ◌∷◌, ◌++◌, length, filter, Bool, true, Some, None}
use Rattle.std.specs.List.{flat_map, last_or}
use Rattle.host_io.specs.Outside.{Outside}
use Rattle.host_io.specs.Reading.{TakesAtMost}
use Rattle.addr_limit.specs.Apart.{Outputs}
use Rattle.addr_limit.specs.Lines.{HasEventFault, LimitStep, is_about}
use Rattle.addr_limit.specs.LogState.{LimitState, start}
use Rattle.log_run.specs.Run.{Ran, Streams}
use Rattle.log_run.specs.declared.run.LogEnd.{LogEnd}
use Rattle.log_run.specs.declared.sizes.TheConstants.{MAX_LOG}
use Rattle.addrman_run.specs.Log.{LogOutcome, streams_of}
use Rattle.addrman_run.specs.declared.status.Status.{Status}

-- Each chosen line has the output that it would have among the chosen lines only: the last output
-- of a run over the chosen lines up to it.
abbrev pub AreIndependent : (List ℕ → Bool) → List (List ℕ) → List (List ℕ) → Type 0
AreIndependent about lines outs =
    (before : List (List ℕ)) (line : List ℕ) (after : List (List ℕ)) →
    lines ≡ before ++ line ∷ after → about line ≡ true →
    (own : List (List ℕ)) × (own_end : LimitState)
    × (front : List (List ℕ)) × (out : List ℕ) × (back : List (List ℕ))
    × Outputs LimitStep start (filter about (before ++ line ∷ [])) own own_end
    × (outs ≡ front ++ out ∷ back) × (length front ≡ length before) × (last_or None own ≡ Some out)

-- A run over the log under the limit, by its end. Each line that is carried out has one output, and
-- that of a line that names a number depends on the lines of that number and the `now` lines only.
pub record Limited (old new : Streams) (how : LogEnd) : Type 0 where
  pub ran : Ran LimitStep HasEventFault start old new how
  pub outputs : List (List ℕ)
  pub each : Outputs LimitStep start ran.carried outputs ran.now
  pub whole : ran.replies ≡ flat_map (λ output. output) outputs
  pub apart : (number : ℕ) → number < 2 ^ 32 → AreIndependent (is_about number) ran.carried outputs

-- how the limit ends, by its status
abbrev pub LimitOutcome : Streams → Streams → Status → Type 0
LimitOutcome old new = LogOutcome (Limited old new) (λ answer. ⊥)

-- How `limit` ends: its outcome by its status. The folder is as it was, and at most one byte more
-- than a log may have is read.
pub record LimitEnds (old new : Outside) (answer : Status) : Type 0 where
  pub outcome : LimitOutcome (streams_of old) (streams_of new) answer
  pub taken : TakesAtMost old.left new.left (MAX_LOG + 1)
  pub past : new.past ≡ old.past
  pub folder_faults : new.folder_faults ≡ old.folder_faults
