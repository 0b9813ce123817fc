-- What the counts of faults say.
use Rattle.std.specs.Prelude.{◌≡◌, ◌≤◌, ℕ}
use Rattle.host_io.specs.Faults.{Rose}

-- a count of faults did not fall, and rose if this fault is the answer
abbrev pub IsCounted : {A : Type 0} → A → ℕ → ℕ → A → Type 0
IsCounted fault before after answer = (before ≤ after) × (answer ≡ fault → Rose before after)
