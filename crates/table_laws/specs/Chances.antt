-- How many of a round's random words select a record. A round uses three words: the first selects
-- the bucket, the second the slot to begin at, and the third accepts the candidate or refuses it.
-- What they do depends on their residues: of the first below the number of buckets, of the second
-- below 64, and of the third below 2^30.
use Rattle.std.specs.Prelude.{ℕ, ◌+◌, ◌-◌, ◌*◌, ◌/◌, ◌^◌, min, List, Bool, ◌&&◌, ◌==◌, count_by, sum_by}
use Rattle.std.specs.List.{range_with_len}
use Rattle.peer_rec.specs.Rec.{chance}
use Rattle.peer_rec.specs.declared.rec.Rec.{Rec}
use Rattle.slot_grid.specs.declared.sizes.TheConstants.{SLOTS}
use Rattle.table_machine.specs.Picks.{bucket_count, first_candidate, is_accepted, is_wanted, occupant_at}
use Rattle.table_machine.specs.State.{State}
use Rattle.table_laws.specs.Rounds.{gap, holds}

-- the words of these residues select a record that passes the test
abbrev pub picks : State → Bool → List ℕ → ℕ → ℕ → (Rec → Bool) → ℕ → ℕ → ℕ → Bool
picks st in_new nets now factor test bucket start word =
    holds (λ r. test r && is_accepted r now factor word)
    (first_candidate st in_new nets bucket start)

-- how many triples of residues do
abbrev pub words_for : State → Bool → List ℕ → ℕ → ℕ → (Rec → Bool) → ℕ
words_for st in_new nets now factor test =
    sum_by (λ bucket. sum_by (λ start.
    count_by (picks st in_new nets now factor test bucket start) (range_with_len 0 (2 ^ 30)))
    (range_with_len 0 SLOTS)) (range_with_len 0 (bucket_count in_new))

-- how many select the record of the number
abbrev pub picking_words : State → Bool → List ℕ → ℕ → ℕ → ℕ → ℕ
picking_words st in_new nets now factor number =
    words_for st in_new nets now factor (λ r. r.number == number)

-- How many slots of a bucket lead to this one: it and those before it, going round, up to the next
-- one that has a wanted record. In a bucket with no other wanted record all do.
abbrev pub leading_slots : State → Bool → List ℕ → ℕ → ℕ → ℕ
leading_slots st in_new nets bucket slot =
    gap (λ s. holds (is_wanted nets) (occupant_at st in_new bucket s)) SLOTS slot

-- how many residues of the third word accept the record: the chance times the factor, in parts of
-- 2^30, rounded up, and 2^30 at most
abbrev pub accepting_words : Rec → ℕ → ℕ → ℕ
accepting_words r now factor = min ((chance r now * factor + (2 ^ 30 - 1)) / 2 ^ 30) (2 ^ 30)
