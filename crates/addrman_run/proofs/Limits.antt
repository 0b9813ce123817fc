-- What the limit has done, from what its run over the log says.
use Rattle.std.proofs.Common.{◌≡◌, ◌<◌, ◌^◌, ℕ, List, [], ◌∷◌, ◌++◌, refl, ap, ◌∙◌, subst}
use Rattle.std.specs.List.{flat_map}
use Rattle.log_run.specs.Run.{Ran, Run, Streams}
use Rattle.log_run.specs.declared.run.LogEnd.{LogEnd}
use Rattle.addr_limit.specs.Apart.{IsLastOutput, Outputs}
use Rattle.addr_limit.specs.Lines.{HasEventFault, LimitStep, is_about}
use Rattle.addr_limit.specs.LogState.{LimitState, start}
use Rattle.addrman_run.specs.Inside.{status_of}
use Rattle.addrman_run.specs.Limit.{LimitOutcome, Limited}
use Rattle.addrman_run.proofs.Seen.{Seen, by_status, ran_of}

-- the output lines of a run
record Given (s : LimitState) (lines : List (List ℕ)) (text : List ℕ) (t : LimitState) : Type 0 where
  outputs : List (List ℕ)
  each : Outputs LimitStep s lines outputs t
  whole : text ≡ flat_map (λ output. output) outputs

given : (s : LimitState) (lines : List (List ℕ)) (text : List ℕ) (t : LimitState) → Run LimitStep s lines text t → Given s lines text t
given s [] text t run = record { outputs = []; each = (refl, run.1); whole = run.0 }
given s (line ∷ lines) text t run =
    let rest = given run.2 lines run.1 t run.5 in
    record {
      outputs = run.0 ∷ rest.outputs;
      each = (run.0, rest.outputs, run.2, refl, run.4, rest.each);
      whole = run.3 ∙ ap (λ t. run.0 ++ t) rest.whole;
    }

limited : (old new : Streams) (how : LogEnd) → ((number : ℕ) → number < 2 ^ 32 → IsLastOutput LimitStep start (is_about number))
    → Ran LimitStep HasEventFault start old new how → Limited old new how
limited old new how law r =
    let run = given start r.carried r.replies r.now r.runs in
    record {
      ran = r;
      outputs = run.outputs;
      each = run.each;
      whole = run.whole;
      apart = λ number low before line after cut about.
          law number low before line after run.outputs r.now (subst (λ lines. Outputs LimitStep start lines run.outputs r.now) cut run.each) about;
    }

-- how the limit ends, from its run beside a world
pub outcome_of : {W : Type 0} (s : LimitState) (w : W) (old new : Streams) (how : LogEnd) → s ≡ start
    → ((number : ℕ) → number < 2 ^ 32 → IsLastOutput LimitStep start (is_about number))
    → Ran (Seen {S = LimitState × W} (λ p. p.0) LimitStep HasEventFault) HasEventFault (s, w) old new how → LimitOutcome old new (status_of how)
outcome_of {W = W} s w old new how begins law r =
    by_status (Limited old new) (λ answer. ⊥) how
    (limited old new how law
    (subst (λ t. Ran LimitStep HasEventFault t old new how) begins (ran_of {S = LimitState × W} (λ p. p.0) LimitStep HasEventFault (s, w) old new how r)))
