-- The end of a shuffle.
use Rattle.std.proofs.Common.{◌≡◌, ℕ, ◌+◌, ◌-◌, ◌%◌, ◌≤◌, List, [], ◌∷◌, length, refl, ap, if◌then◌else◌}
use Rattle.std.specs.Prelude.{swap}
use Rattle.std.proofs.lemmas.Bool.{le-ltb}
use Rattle.node_calls.specs.Chosen.{shuffled}

-- no position is left
pub shuffled-all : {A : Type 0} (xs : List A) (i : ℕ) (words : List ℕ) → length xs ≤ i → shuffled xs i words ≡ xs
shuffled-all xs i [] all = refl
shuffled-all xs i (word ∷ words) all =
    ap (λ b. if b then shuffled (swap xs i (i + word % (length xs - i))) (i + 1) words else xs) (le-ltb i (length xs) all)
