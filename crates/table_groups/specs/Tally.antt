-- The values of groups, each as its bytes, of which each visit changes one.
use Rattle.std.specs.Prelude.{ℕ, List, [], ◌∷◌, ◌++◌, fold, map, bytes_eq, if◌then◌else◌, unwrap_or}
use Rattle.std.specs.List.{list_any}
use Rattle.std.specs.Map.{lookup}
use Rattle.arrayvec.specs.ArrayVec.{ArrayVec}
use Rattle.indexmap.specs.IndexMap.{insert_entry}

-- a group more, unless it is there
abbrev pub with_group : List (List ℕ) → List ℕ → List (List ℕ)
with_group seen g = if list_any (bytes_eq g) seen then seen else seen ++ g ∷ []

-- the groups, each once, in the order of the first ones
abbrev pub once : List (List ℕ) → List (List ℕ)
once groups = fold with_group [] groups

-- the entries of a map, each with the bytes of its group
abbrev pub by_bytes : {V : Type 0} → List (ArrayVec ℕ × V) → List (List ℕ × V)
by_bytes es = map (λ e. (e.0.items, e.1)) es

-- The groups of a tally.
abbrev pub groups_of : {V : Type 0} → List (List ℕ × V) → List (List ℕ)
groups_of es = map (λ e. e.0) es

-- the value of a group, `none` if it has none
abbrev pub value_in : {V : Type 0} → V → List (List ℕ × V) → List ℕ → V
value_in none es g = unwrap_or (lookup (bytes_eq g) es) none

module _ {V E : Type 0} (none : V) (after : V → E → V) where
  -- a visit, which is a group with what is added to its value
  abbrev pub noted : List (List ℕ × V) → List ℕ × E → List (List ℕ × V)
  noted es visit = insert_entry bytes_eq es visit.0 (after (value_in none es visit.0) visit.1)

  -- The groups of some visits, each with the value that its visits make.
  abbrev pub tally_of : List (List ℕ × E) → List (List ℕ × V)
  tally_of visits = fold noted [] visits
