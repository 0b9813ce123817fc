-- Runs with one output a line, and what it means that some lines' outputs depend only on these
-- lines.
use Rattle.std.specs.Prelude.{◌≡◌, List, [], ◌∷◌, ◌++◌, Bool, true, filter, Some, None, length}
use Rattle.std.specs.List.{last_or}

-- a step: the state before, the line, its output, and the state after
abbrev pub Steps : Type 0 → Type 0 → Type 0 → Type 1
Steps S L O = S → L → O → S → Type 0

-- the lines, in order, have these outputs and lead to this state
abbrev pub Outputs : {S L O : Type 0} → Steps S L O → S → List L → List O → S → Type 0
Outputs step old [] outs new = (outs ≡ []) × (new ≡ old)
Outputs {S = S} {O = O} step old (line ∷ lines) outs new =
    (first : O) × (rest : List O) × (mid : S) × (outs ≡ first ∷ rest) × step old line first mid
    × Outputs step mid lines rest new

-- The output of a chosen line is the one that it has if only the chosen lines come before it.
abbrev pub DependsOn : {S L O : Type 0} → Steps S L O → S → (L → Bool) → Type 0
DependsOn {S = S} {L = L} {O = O} step start about =
    (before : List L) (outs : List O) (mid : S) (line : L) (out : O) (end : S) →
    Outputs step start before outs mid → step mid line out end → about line ≡ true →
    (own : List O) × (own_mid : S) × (own_end : S)
    × Outputs step start (filter about before) own own_mid × step own_mid line out own_end

-- The output of a chosen line is the last output of the run over the chosen lines up to it.
abbrev pub IsLastOutput : {S L O : Type 0} → Steps S L O → S → (L → Bool) → Type 0
IsLastOutput {S = S} {L = L} {O = O} step start about =
    (before : List L) (line : L) (after : List L) (outs : List O) (end : S)
    → Outputs step start (before ++ line ∷ after) outs end → about line ≡ true →
    (own : List O) × (own_end : S) × (front : List O) × (out : O) × (back : List O) ×
    Outputs step start (filter about (before ++ line ∷ [])) own own_end
    × (outs ≡ front ++ out ∷ back) × (length front ≡ length before) × (last_or None own ≡ Some out)
