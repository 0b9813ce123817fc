-- Which part of the searches of a table ends at records of a set, at most, computed from how many
-- starts lead to records of each chance. A start is a bucket and a slot of it to begin at; a round
-- of the search is a start and the residue below 2^30 of the word that decides on the candidate.
use Rattle.std.specs.Prelude.{ℕ, zero, suc, ◌+◌, ◌-◌, ◌*◌, ◌/◌, ◌^◌, ◌≤◌, ◌<◌, min, All, List, sum_by}
use Rattle.peer_rec.specs.Rec.{next_factor}
use Rattle.risk_sum.specs.declared.kinds.Kind.{Kind}

-- how many residues accept a record of the chance
abbrev pub accepting : ℕ → ℕ → ℕ
accepting chance factor = min ((chance * factor + (2 ^ 30 - 1)) / 2 ^ 30) (2 ^ 30)

-- how many rounds select a record of the set
abbrev pub taken_by : List Kind → ℕ → ℕ
taken_by kinds factor = sum_by (λ k. k.theirs * accepting k.chance factor) kinds

-- how many rounds refuse their candidate
abbrev pub refused_by : List Kind → ℕ → ℕ
refused_by kinds factor = sum_by (λ k. k.all * (2 ^ 30 - accepting k.chance factor)) kinds

-- the quotient, rounded up
abbrev pub rounded_up : ℕ → ℕ → ℕ
rounded_up a b = (a + (b - 1)) / b

-- Of `left` searches, how many end from a factor on at a record of the set, at most. Of the rounds
-- `busy` have a candidate. It looks so many refusals ahead; after these all that are left count.
abbrev pub most_by : List Kind → ℕ → ℕ → ℕ → ℕ → ℕ
most_by kinds busy left zero factor = left
most_by kinds busy left (suc ahead) factor =
    rounded_up (left * taken_by kinds factor) busy
    + most_by kinds busy (rounded_up (left * refused_by kinds factor) busy) ahead
    (next_factor factor)

-- how many starts lead to a candidate
abbrev pub starts_of : List Kind → ℕ
starts_of kinds = sum_by (λ k. k.all) kinds

-- Those of the set are some of all. Some start has a candidate, and a table has at most 65,536
-- starts.
pub record AreKinds (kinds : List Kind) : Type 0 where
  pub parts : All (λ k. k.theirs ≤ k.all) kinds
  pub some : 0 < starts_of kinds
  pub most : starts_of kinds ≤ 65536
