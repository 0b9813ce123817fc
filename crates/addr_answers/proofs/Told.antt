-- What is told has few entries.
use Rattle.std.proofs.Common.{ℕ, ◌≤◌, Bool, true, false, cond, List, [], ◌∷◌, length, Option, Some, None, sym, subst, ◌≡◌, arith}
use Rattle.std.specs.Prelude.{◌&&◌, option_map}
use Rattle.std.specs.List.{AllByRecursion}
use Rattle.std.proofs.lemmas.List.Elements.{recursion_from_All}
use Rattle.net_addr.specs.declared.peer.Entry.{Entry}
use Rattle.addr_answers.specs.Answers.{Answer, is_of, is_current, answer_at, AreAnswers}
use Rattle.addr_answers.specs.Runs.{entries_of}
use Rattle.addr_answers.specs.declared.answers.TheConstants.{MAX_TOLD}

few_each : (key now : ℕ) (kept : List Answer) → AllByRecursion (λ a. length a.entries ≤ MAX_TOLD) kept
    → length (entries_of (answer_at key now kept)) ≤ MAX_TOLD
few_each key now [] all = omega (arith)
few_each key now (a ∷ kept) all = by (is_of key a && is_current now a) (few_each key now kept all.1)
  where
    by : (b : Bool) → length (entries_of (answer_at key now kept)) ≤ MAX_TOLD
        → length (entries_of (cond b (Some a) (answer_at key now kept))) ≤ MAX_TOLD
    by true rest = all.0
    by false rest = rest

found : (es : List Entry) (o : Option Answer) → Some es ≡ option_map (λ a. a.entries) o → entries_of o ≡ es
found es None is = cc is
found es (Some a) is = sym (cc is)

-- what is found in the answers that are kept
pub few : (key now : ℕ) (kept : List Answer) (es : List Entry) → AreAnswers kept
    → Some es ≡ option_map (λ a. a.entries) (answer_at key now kept) → length es ≤ MAX_TOLD
few key now kept es are is =
    subst (λ (told : List Entry). length told ≤ MAX_TOLD) (found es (answer_at key now kept) is)
    (few_each key now kept (recursion_from_All (λ (a : Answer). length a.entries ≤ MAX_TOLD) kept are.entries))
