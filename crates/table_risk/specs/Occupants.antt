-- The records in the slots of a table, each with how many starts lead to it. A start is a bucket
-- that has a record, and a slot of it to begin at: a round comes from there to the first slot that
-- has one, going round.
use Rattle.std.specs.Prelude.{ℕ, Bool, ◌&&◌, ◌==◌, List, [], ◌∷◌, Option, Some, None, filter, is_some, sum_by}
use Rattle.std.specs.List.{flat_map, range_with_len}
use Rattle.peer_rec.specs.Rec.{chance}
use Rattle.peer_rec.specs.declared.rec.Rec.{Rec}
use Rattle.slot_grid.specs.declared.sizes.TheConstants.{SLOTS}
use Rattle.table_groups.specs.View.{View, occupant_at}
use Rattle.table_laws.specs.Rounds.{gap}
use Rattle.table_machine.specs.Picks.{bucket_count}
use Rattle.table_risk.specs.declared.occupants.Occupant.{Occupant}

-- how many starts lead to a slot that has a record
abbrev pub starts_at : View → Bool → ℕ → ℕ → ℕ
starts_at view in_new bucket slot =
    gap (λ s. is_some (occupant_at view in_new bucket s)) SLOTS slot

-- The record of a slot with its starts; none if the slot is free.
abbrev pub occupant_in : Option Rec → ℕ → List Occupant
occupant_in None starts = []
occupant_in (Some r) starts = record { rec = r; starts = starts } ∷ []

-- The record in a slot of a bucket, with the number of starts that lead to it.
abbrev pub slot_occupant : View → Bool → ℕ → ℕ → List Occupant
slot_occupant view in_new bucket slot =
    occupant_in (occupant_at view in_new bucket slot) (starts_at view in_new bucket slot)

-- The records in the slots of a bucket.
unfoldable pub bucket_occupants : View → Bool → ℕ → List Occupant
bucket_occupants view in_new bucket =
    flat_map (slot_occupant view in_new bucket) (range_with_len 0 SLOTS)

-- those of all buckets
unfoldable pub occupants_of : View → Bool → List Occupant
occupants_of view in_new =
    flat_map (bucket_occupants view in_new) (range_with_len 0 (bucket_count in_new))

-- how many starts lead to some of them
abbrev pub starts_in : List Occupant → ℕ
starts_in occupants = sum_by (λ o. o.starts) occupants

-- the records of a chance that pass a test
abbrev pub starts_for : List Occupant → (Rec → Bool) → ℕ → ℕ → ℕ
starts_for occupants test now likely =
    starts_in (filter (λ o. test o.rec && chance o.rec now == likely) occupants)
