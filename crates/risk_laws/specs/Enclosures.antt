-- Which part of the searches ends at records that pass a test, at most, computed from the rounds.
use Rattle.std.specs.Prelude.{ℕ, zero, suc, ◌+◌, ◌*◌, List, Bool}
use Rattle.peer_rec.specs.declared.rec.Rec.{Rec}
use Rattle.peer_rec.specs.Rec.{next_factor}
use Rattle.table_machine.specs.State.{State}
use Rattle.table_laws.specs.Chances.{words_for}
use Rattle.table_laws.specs.Searches.{refusing_rounds}
use Rattle.risk_sum.specs.Kinds.{rounded_up}

-- Of `left` searches, how many end from a factor on at a record that passes the test, at most. Of
-- the rounds `busy` have a candidate. It looks so many refusals ahead; after these all that are
-- left count.
abbrev pub most_of : State → Bool → List ℕ → ℕ → (Rec → Bool) → ℕ → ℕ → ℕ → ℕ → ℕ
most_of st in_new nets now test busy left zero factor = left
most_of st in_new nets now test busy left (suc ahead) factor =
    rounded_up (left * words_for st in_new nets now factor test) busy
    + most_of st in_new nets now test busy
    (rounded_up (left * refusing_rounds st in_new nets now factor) busy) ahead (next_factor factor)
