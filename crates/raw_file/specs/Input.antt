-- A whole input, up to a limit.
use Rattle.std.specs.Prelude.{◌≡◌, ℕ, ◌+◌, ◌<◌, ◌≤◌, List, [], length, drop, Option, Some, IfSome}

-- the input was these bytes, at most `limit`, and none is left
abbrev pub IsInput : ℕ → Option (List ℕ) → Option (List ℕ) → List ℕ → Type 0
IsInput limit before after bytes =
    (length bytes ≤ limit)
    × IfSome before (λ left. (left ≡ bytes) × (after ≡ Some []))

-- the input had more bytes than `limit`, of which one more than that was taken
abbrev pub IsLong : ℕ → Option (List ℕ) → Option (List ℕ) → Type 0
IsLong limit before after =
    IfSome before (λ left. (limit < length left) × (after ≡ Some (drop (limit + 1) left)))
