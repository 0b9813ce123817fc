-- How the outside may fail: an object counts its faults, and answers `Failed` only if its count
-- rose in the call.
use Rattle.std.specs.Prelude.{◌≡◌, ℕ, ◌+◌, ◌-◌, ◌^◌, ◌<◌, ◌≤◌, ◌⊎◌, min}

-- The count of faults rose: it is greater than before, or is at the end of its type.
abbrev pub Rose : ℕ → ℕ → Type 0
Rose before after = (before < after) ⊎ (after ≡ 2 ^ 64 - 1)

-- The count of faults rose by at least this many, or it rose and is at the end of its type.
abbrev pub RoseBy : ℕ → ℕ → ℕ → Type 0
RoseBy n before after = (before + n ≤ after) ⊎ ((2 ^ 64 - 1 ≤ after) × Rose before after)

-- A count after one more; it stays at the end of its type once it is there.
abbrev pub raised : ℕ → ℕ
raised count = min (count + 1) (2 ^ 64 - 1)

-- A count that stays the same below the end of its type has not risen.
abbrev pub StillCountHasNotRisen : Type 0
StillCountHasNotRisen = (count : ℕ) → count < 2 ^ 64 - 1 → ¬ Rose count count
