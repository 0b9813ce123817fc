-- What a command writes that answers each line of a log by what the line means.
use Rattle.std.specs.Prelude.{◌≡◌, ◌⊎◌, ℕ, List, [], ◌∷◌}
use Rattle.std.specs.List.{flat_map}
use Rattle.grammar.specs.declared.fault.LineFault.{LineFault}
use Rattle.host_io.specs.Lines.{IsPassedOver}
use Rattle.log_run.specs.Run.{Ran, Steps, Streams}
use Rattle.log_run.specs.declared.run.LogEnd.{LogEnd}

-- A line is passed over, or answered. Nothing changes.
abbrev pub EachStep : {S X : Type 0} → (List ℕ → X → Type 0) → (S → X → List ℕ) → Steps S
EachStep {X = X} Means answer old line text new =
    (new ≡ old)
    × ((IsPassedOver line × (text ≡ []))
    ⊎ ((x : X) × Means line x × (text ≡ answer old x)))

-- what some lines mean, in order; lines that are passed over mean nothing
abbrev pub Mean : {X : Type 0} → (List ℕ → X → Type 0) → List (List ℕ) → List X → Type 0
Mean Means [] xs = xs ≡ []
Mean {X = X} Means (line ∷ lines) xs =
    (IsPassedOver line × Mean Means lines xs)
    ⊎ ((x : X) × (rest : List X) × (xs ≡ x ∷ rest) × Means line x × Mean Means lines rest)

-- A run over the log from a state, by its end. The n-th answer is that to the n-th line that is not
-- passed over.
pub record Answered {S X : Type 0} (Means : List ℕ → X → Type 0) (answer : S → X → List ℕ)
    (has_fault : List ℕ → LineFault → Type 0) (begins : S) (old new : Streams)
    (how : LogEnd) : Type 0 where
  pub ran : Ran (EachStep Means answer) has_fault begins old new how
  pub meanings : List X
  pub each : Mean Means ran.carried meanings
  pub whole : ran.replies ≡ flat_map (answer begins) meanings
