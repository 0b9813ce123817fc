-- The same of events: outputs as a function.
use Rattle.std.proofs.Common.{◌≡◌, ℕ, List, [], ◌∷◌, ◌++◌, true, filter, length, Some, None, refl, sym, ◌∙◌, ap}
use Rattle.std.specs.List.{last_or}
use Rattle.addr_limit.specs.LogState.{LimitState}
use Rattle.addr_limit.specs.Steps.{after_event, output}
use Rattle.addr_limit.specs.declared.command.Event.{Event}
use Rattle.addr_limit.specs.Apart.{Steps, Outputs, IsLastOutput}
use Rattle.addr_limit.proofs.Apart.{depends_on, last_output}
use Rattle.addr_limit.proofs.Served.{part_of, concerns, others_leave, answers_alike}

-- a line with what it says
abbrev Line : Type 0
Line = List ℕ × Event

abbrev pub outputs : LimitState → List Line → List (List ℕ)
outputs st [] = []
outputs st (p ∷ ps) = output st p.0 p.1 ∷ outputs (after_event st p.1) ps

abbrev EventStep : Steps LimitState Line (List ℕ)
EventStep old p out new = (out ≡ output old p.0 p.1) × (new ≡ after_event old p.1)

-- the function and the relation are one
outputs-run : (st : LimitState) (ps : List Line) → (end : LimitState) × Outputs EventStep st ps (outputs st ps) end
outputs-run st [] = (st, (refl, refl))
outputs-run st (p ∷ ps) =
    let rest = outputs-run (after_event st p.1) ps in
    (rest.0, (output st p.0 p.1, outputs (after_event st p.1) ps, after_event st p.1, refl, (refl, refl), rest.1))

outputs-only : (st : LimitState) (ps : List Line) (outs : List (List ℕ)) (end : LimitState) → Outputs EventStep st ps outs end → outs ≡ outputs st ps
outputs-only st [] outs end run = run.0
outputs-only st (p ∷ ps) outs end run =
    run.3 ∙ (λ i. run.4.0 i ∷ outputs-only run.2 ps run.1 end run.5 i) ∙ ap (λ s. output st p.0 p.1 ∷ outputs s ps) run.4.1

apart : (number : ℕ) (start : LimitState) → IsLastOutput EventStep start (λ p. concerns number p.1)
apart number start = last_output EventStep start (λ p. concerns number p.1) (depends_on EventStep (part_of number) (λ p. concerns number p.1)
    (λ s p out t step h. ap (part_of number) step.1 ∙ others_leave number s p.1 h)
    (λ s p out t u step h same.
    let both = answers_alike number s u p.0 p.1 h same in
    (after_event u p.1, (step.0 ∙ sym both.0, refl), both.1 ∙ ap (part_of number) (sym step.1)))
    start)

-- output line i for events is the last one for the number's own events and the times among the
-- first i
pub events_apart : (number : ℕ) (start : LimitState) (before : List Line) (p : Line) (more : List Line) → concerns number p.1 ≡ true →
    (front : List (List ℕ)) × (out : List ℕ) × (back : List (List ℕ)) × (outputs start (before ++ p ∷ more) ≡ front ++ out ∷ back)
    × (length front ≡ length before) × (last_or None (outputs start (filter (λ q. concerns number q.1) (before ++ p ∷ []))) ≡ Some out)
events_apart number start before p more h =
    let run = outputs-run start (before ++ p ∷ more) in
    let own = apart number start before p more (outputs start (before ++ p ∷ more)) run.0 run.1 h in
    (own.2, own.3, own.4, own.6, own.7, ap (last_or None) (sym (outputs-only start (filter (λ q. concerns number q.1) (before ++ p ∷ [])) own.0 own.1 own.5)) ∙ own.8)
