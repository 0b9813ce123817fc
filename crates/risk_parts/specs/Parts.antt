-- Which part of the picks falls to the peers of a set, at most.
use Rattle.std.specs.Prelude.{◌≡◌, ℕ, ◌+◌, ◌*◌, ◌^◌, ◌==◌, ◌||◌, min, Bool, true, false, All, if◌then◌else◌}
use Rattle.net_addr.specs.NetSet.{all}
use Rattle.net_addr.specs.declared.peer.Peer.{Peer}
use Rattle.risk_laws.specs.Classes.{bound_of}
use Rattle.risk_sum.specs.Kinds.{rounded_up}
use Rattle.table_machine.specs.Picks.{wanted_new, wanted_tried}
use Rattle.table_machine.specs.State.{State}
use Rattle.risk_parts.specs.declared.parts.Parts.{Parts}
use Rattle.risk_parts.specs.declared.parts.TheConstants.{AHEAD}

-- no record was tried, as far as the tables know: so it is after a restart
abbrev pub HasNoTries : State → Type 0
HasNoTries st = All (λ r. r.last_try ≡ 0) st.records

-- The number of eligible records of the new table (`true`) or of the tried table (`false`).
abbrev pub wanted_in : State → Bool → ℕ
wanted_in st true = wanted_new st all
wanted_in st false = wanted_tried st all

-- a share of the whole in parts of a million, rounded up; more than the whole counts as the whole
abbrev pub millionths : ℕ → ℕ → ℕ
millionths share whole = rounded_up (min share whole * 10 ^ 6) whole

-- of 2^64 searches of a table, how many end at peers of the set, at most
unfoldable pub bound_in : State → Bool → ℕ → (Peer → Bool) → ℕ
bound_in st in_new now theirs = bound_of st in_new all now theirs (2 ^ 64) AHEAD

-- the same, but at most all 2^64, and none if no record of the table is wanted
abbrev pub share_for : State → Bool → ℕ → (Peer → Bool) → ℕ
share_for st in_new now theirs =
    if wanted_in st in_new == 0 then 0 else min (bound_in st in_new now theirs) (2 ^ 64)

-- The parts of these shares of 2^64 searches. With records in both tables, half of the picks come
-- from each.
abbrev pub parts_from : ℕ → ℕ → Bool → Parts
parts_from new tried is_one = record {
  picks = millionths (new + tried) (if is_one then 2 ^ 64 else 2 ^ 65);
  new = millionths new (2 ^ 64);
  tried = millionths tried (2 ^ 64);
}

-- the parts that fall to the peers of a set
abbrev pub parts_for : State → ℕ → (Peer → Bool) → Parts
parts_for st now theirs =
    parts_from (share_for st true now theirs) (share_for st false now theirs)
    (wanted_new st all == 0 || wanted_tried st all == 0)
