-- The bytes of a sink after some were written to it. A sink whose bytes contracts do not know meets
-- each of these.
use Rattle.std.specs.Prelude.{◌≡◌, ℕ, ◌<◌, ◌≤◌, List, ◌++◌, length, take, Option, Some, IfSome}

-- These bytes were appended.
abbrev pub Appended : Option (List ℕ) → Option (List ℕ) → List ℕ → Type 0
Appended old new text = IfSome old (λ before. new ≡ Some (before ++ text))

-- A prefix of these bytes was appended: none, some or all of them.
abbrev pub AppendedPrefix : Option (List ℕ) → Option (List ℕ) → List ℕ → Type 0
AppendedPrefix old new text =
    IfSome old (λ before. (n : ℕ) × (n ≤ length text) × (new ≡ Some (before ++ take n text)))

-- A prefix of these bytes was appended, and not all of them.
abbrev pub AppendedPart : Option (List ℕ) → Option (List ℕ) → List ℕ → Type 0
AppendedPart old new text =
    IfSome old (λ before. (n : ℕ) × (n < length text) × (new ≡ Some (before ++ take n text)))
