-- How many starts of a table lead to records of each chance. The chances are those of
-- `AddrInfo::GetChance` in addrman.cpp of Bitcoin Core.
use Rattle.std.specs.Prelude.{ℕ, ◌*◌, ◌/◌, ◌^◌, List, ◌++◌, Bool, true, ◌&&◌, ◌==◌, filter, map, sum_by}
use Rattle.std.specs.List.{range_with_len}
use Rattle.net_addr.specs.declared.peer.Peer.{Peer}
use Rattle.peer_rec.specs.Rec.{chance}
use Rattle.peer_rec.specs.declared.rec.Rec.{Rec}
use Rattle.table_machine.specs.Picks.{first_factor, is_wanted}
use Rattle.table_machine.specs.State.{State}
use Rattle.table_laws.specs.Odds.{leading_starts}
use Rattle.risk_sum.specs.Kinds.{most_by, starts_of}
use Rattle.risk_sum.specs.declared.kinds.Kind.{Kind}

-- the chance after so many tries, in parts of 2^30
abbrev pub chance_after : ℕ → ℕ
chance_after tries = (2 ^ 30 * 66 ^ tries) / 100 ^ tries

-- The chances that a record can have: of its tries eight count at most, and after one in the last
-- ten minutes the chance is a hundredth.
abbrev pub chances : List ℕ
chances =
    map chance_after (range_with_len 0 9)
    ++ map (λ tries. chance_after tries / 100) (range_with_len 0 9)

-- how many starts lead to wanted records of a chance that pass a test
abbrev pub starts_for : State → Bool → List ℕ → ℕ → (Rec → Bool) → ℕ → ℕ
starts_for st in_new nets now test likely =
    sum_by (leading_starts st in_new nets)
    (filter (λ r. test r && is_wanted nets r && chance r now == likely) st.records)

-- The eligible records of a chance: how many starts lead to any of them, and to those that pass a
-- test.
abbrev pub kind_of : State → Bool → List ℕ → ℕ → (Rec → Bool) → ℕ → Kind
kind_of st in_new nets now test likely = record {
  chance = likely;
  all = starts_for st in_new nets now (λ r. true) likely;
  theirs = starts_for st in_new nets now test likely;
}

-- The eligible records by their chances, the likeliest first.
abbrev pub kinds_of : State → Bool → List ℕ → ℕ → (Rec → Bool) → List Kind
kinds_of st in_new nets now test = map (kind_of st in_new nets now test) chances

-- Of `unit` searches of a table, how many end at peers of a set, at most: from these kinds only,
-- with so many refusals looked ahead.
abbrev pub bound_of : State → Bool → List ℕ → ℕ → (Peer → Bool) → ℕ → ℕ → ℕ
bound_of st in_new nets now theirs unit ahead =
    let kinds = kinds_of st in_new nets now (λ r. theirs r.peer) in
    most_by kinds (starts_of kinds * 2 ^ 30) unit ahead first_factor
