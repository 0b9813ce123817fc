-- A run, as a run of what is seen of its states, and the status of its end.
use Rattle.std.proofs.Common.{◌≡◌, ◌∙◌, ℕ, List, [], ◌∷◌, ap, inr, refl, subst, sym}
use Rattle.grammar.specs.declared.fault.LineFault.{LineFault}
use Rattle.log_run.specs.Counts.{IsCounted}
use Rattle.log_run.specs.Run.{EndsBy, Ran, Run, Steps, Streams, last_reply}
use Rattle.log_run.specs.declared.run.LogEnd.{LogEnd}
use Rattle.log_run.specs.declared.run.LogEnd.TheVariants as end
use Rattle.addrman_run.specs.Inside.{status_of}
use Rattle.addrman_run.specs.Log.{LogOutcome}
use Rattle.addrman_run.specs.declared.status.Status.{Status}
use Rattle.addrman_run.specs.declared.status.Status.TheVariants as status

-- a run over a log, with other states and the same lines and replies
abbrev pub ran_as : {S T : Type 0} (step : Steps S) (other : Steps T) (has_fault : List ℕ → LineFault → Type 0) (start : S) (begins : T) (old new : Streams) (how : LogEnd)
    (r : Ran step has_fault start old new how) (now : T) (runs : Run other begins r.carried r.replies now)
    → last_reply other begins r.carried r.replies now [] runs ≡ last_reply step start r.carried r.replies r.now [] r.runs
    → Ran other has_fault begins old new how
ran_as step other has_fault start begins old new how r now runs same = record {
  log = r.log;
  known = r.known;
  carried = r.carried;
  next = r.next;
  begins = r.begins;
  replies = r.replies;
  now = now;
  runs = runs;
  text = r.text;
  unwritten = r.unwritten;
  whole = r.whole;
  written = r.written;
  ends = subst (λ last. EndsBy has_fault r.log r.carried r.next last r.unwritten old new how) (sym same) r.ends;
}

module _ {S T : Type 0} (seen : S → T) (step : Steps T) (has_fault : List ℕ → LineFault → Type 0) where
  -- a step of what is seen
  abbrev pub Seen : Steps S
  Seen old line text new = step (seen old) line text (seen new)

  run_of : (lines : List (List ℕ)) (text : List ℕ) (s t : S) → Run Seen s lines text t → Run step (seen s) lines text (seen t)
  run_of [] text s t run = (run.0, ap seen run.1)
  run_of (line ∷ lines) text s t run = (run.0, run.1, seen run.2, run.3, run.4, run_of lines run.1 run.2 t run.5)

  last_of : (lines : List (List ℕ)) (text : List ℕ) (s t : S) (none : List ℕ) (run : Run Seen s lines text t)
      → last_reply step (seen s) lines text (seen t) none (run_of lines text s t run) ≡ last_reply Seen s lines text t none run
  unfolding run_of
  last_of [] text s t none run = refl
  last_of (line ∷ lines) text s t none run = last_of lines run.1 run.2 t run.0 run.5

  pub ran_of : (start : S) (old new : Streams) (how : LogEnd) → Ran Seen has_fault start old new how → Ran step has_fault (seen start) old new how
  ran_of start old new how r =
      ran_as Seen step has_fault start (seen start) old new how r (seen r.now) (run_of r.carried r.replies start r.now r.runs)
      (last_of r.carried r.replies start r.now [] r.runs)

  pub now_of : (start : S) (old new : Streams) (how : LogEnd) (r : Ran Seen has_fault start old new how) → (ran_of start old new how r).now ≡ seen r.now
  unfolding ran_of
  now_of start old new how r = refl

-- what holds of a run, by the status of its end
pub by_status : (ran : LogEnd → Type 0) (not_run : Status → Type 0) (how : LogEnd) → ran how → LogOutcome ran not_run (status_of how)
by_status ran not_run end.Done r = r
by_status ran not_run (end.Fault n fault) r = r
by_status ran not_run (end.LineTooLong n) r = r
by_status ran not_run end.LogTooLong r = r
by_status ran not_run end.ReadFault r = r
by_status ran not_run end.WriteFault r = r
by_status ran not_run end.Memory r = inr r

-- the end of a run with the status of a fault
read_end : (how : LogEnd) → status_of how ≡ status.ReadFault → how ≡ end.ReadFault
read_end end.Done is = cc is
read_end (end.Fault n fault) is = cc is
read_end (end.LineTooLong n) is = cc is
read_end end.LogTooLong is = cc is
read_end end.ReadFault is = refl
read_end end.WriteFault is = cc is
read_end end.Memory is = cc is

write_end : (how : LogEnd) → status_of how ≡ status.WriteFault → how ≡ end.WriteFault
write_end end.Done is = cc is
write_end (end.Fault n fault) is = cc is
write_end (end.LineTooLong n) is = cc is
write_end end.LogTooLong is = cc is
write_end end.ReadFault is = cc is
write_end end.WriteFault is = refl
write_end end.Memory is = cc is

-- a fault that the run counts is one that the command counts
pub read_counted : (how : LogEnd) (answer : Status) (before after : ℕ) → answer ≡ status_of how
    → IsCounted end.ReadFault before after how → IsCounted status.ReadFault before after answer
read_counted how answer before after is counted = (counted.0, λ fault. counted.1 (read_end how (sym is ∙ fault)))

pub write_counted : (how : LogEnd) (answer : Status) (before after : ℕ) → answer ≡ status_of how
    → IsCounted end.WriteFault before after how → IsCounted status.WriteFault before after answer
write_counted how answer before after is counted = (counted.0, λ fault. counted.1 (write_end how (sym is ∙ fault)))

pub no_disk : (how : LogEnd) → status_of how ≡ status.DiskFault → ⊥
no_disk end.Done is = cc is
no_disk (end.Fault n fault) is = cc is
no_disk (end.LineTooLong n) is = cc is
no_disk end.LogTooLong is = cc is
no_disk end.ReadFault is = cc is
no_disk end.WriteFault is = cc is
no_disk end.Memory is = cc is
