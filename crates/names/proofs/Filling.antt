-- A list that is filled from the front by a function of the index.
use Rattle.std.proofs.Common.{◌≡◌, ℕ, ◌+◌, ◌<◌, List, length, get_or, set, arith, ◌∙◌, below_more, get_or-set_other, get_or-set_same}
use Rattle.std.proofs.lemmas.List.{length-set}

abbrev pub IsFilled : (ℕ → ℕ) → List ℕ → ℕ → ℕ → Type 0
IsFilled f xs n i = (length xs ≡ n) × ((k : ℕ) → k < i → get_or xs k 0 ≡ f k)

pub filled_more : (f : ℕ → ℕ) (xs : List ℕ) (n i x : ℕ) → IsFilled f xs n i → i < n → x ≡ f i → IsFilled f (set xs i x) n (i + 1)
filled_more f xs n i x h lt e =
    let inside : i < length xs = omega (arith, h.0) in (
      length-set xs i x ∙ h.0,
      below_more _ _
          (λ k less. get_or-set_other xs i k x 0 (omega arith) ∙ h.1 k less)
          (get_or-set_same xs i x 0 inside ∙ e),
    )
