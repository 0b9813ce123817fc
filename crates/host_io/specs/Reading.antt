-- Bytes that are read. A source or a file whose bytes contracts do not know meets each of these.
use Rattle.std.specs.Prelude.{◌≡◌, ℕ, ◌≤◌, List, ◌++◌, drop, Option, Some, IfSome}

-- Bytes moved from the start of what is left to the end of the text, in order and none lost.
abbrev pub MovesBytes : Option (List ℕ) → Option (List ℕ) → List ℕ → List ℕ → Type 0
MovesBytes left_before left_after text_before text_after =
    (bytes : List ℕ) → left_before ≡ Some bytes →
    (rest : List ℕ) × (left_after ≡ Some rest) × (text_before ++ bytes ≡ text_after ++ rest)

-- At most this many bytes were taken from the start of what is left.
abbrev pub TakesAtMost : Option (List ℕ) → Option (List ℕ) → ℕ → Type 0
TakesAtMost left_before left_after most =
    IfSome left_before (λ bytes. (n : ℕ) × (n ≤ most) × (left_after ≡ Some (drop n bytes)))
