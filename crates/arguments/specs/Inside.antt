-- Words of private contracts.
use Rattle.std.specs.Prelude.{◌≡◌, ◌⊎◌, ℕ, List, ◌∷◌, ◌++◌, codes}
use Rattle.grammar.specs.Fields.{IsInForm, Kind}

-- the arguments begin with an option and its value, in two or in one, and go on with the rest
abbrev pub Begins : List ℕ → List ℕ → List (List ℕ) → List (List ℕ) → Type 0
Begins name value rest words =
    (words ≡ name ∷ value ∷ rest) ⊎ (words ≡ (name ++ codes "=" ++ value) ∷ rest)

-- the arguments begin with an option whose value is not of this kind
abbrev pub HasNoValue : List ℕ → Kind → List (List ℕ) → Type 0
HasNoValue name kind words =
    (text : List ℕ) × (rest : List (List ℕ)) × Begins name text rest words × (¬ IsInForm kind text)
