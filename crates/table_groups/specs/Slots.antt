-- The slots of the tables, counted by a test of the record in them.
use Rattle.std.specs.Prelude.{ℕ, ◌+◌, List, Bool, false, Option, Some, None, bytes_eq}
use Rattle.std.specs.List.{count_by, list_any, range_with_len, sum_by}
use Rattle.peer_rec.specs.declared.rec.Rec.{Rec}
use Rattle.placing.specs.Places.{Places, group}
use Rattle.slot_grid.specs.declared.sizes.TheConstants.{NEW_BUCKETS, SLOTS, TRIED_BUCKETS}
use Rattle.table_groups.specs.View.{View}

-- how many slots of a bucket pass a test of their record
abbrev pub slots_in : (Option Rec → Bool) → (ℕ → Option Rec) → ℕ
slots_in test rec_at = count_by (λ slot. test (rec_at slot)) (range_with_len 0 SLOTS)

-- whether some slot of it does
abbrev pub some_in : (Option Rec → Bool) → (ℕ → Option Rec) → Bool
some_in test rec_at = list_any (λ slot. test (rec_at slot)) (range_with_len 0 SLOTS)

-- how many slots of the new table do
unfoldable pub new_slots : (Option Rec → Bool) → View → ℕ
new_slots test view =
    sum_by (λ bucket. slots_in test (view.new bucket)) (range_with_len 0 NEW_BUCKETS)

-- how many of the tried table do
unfoldable pub tried_slots : (Option Rec → Bool) → View → ℕ
tried_slots test view =
    sum_by (λ bucket. slots_in test (view.tried bucket)) (range_with_len 0 TRIED_BUCKETS)

-- how many of both do
abbrev pub all_slots : (Option Rec → Bool) → View → ℕ
all_slots test view = new_slots test view + tried_slots test view

-- how many buckets of the new table have such a slot
unfoldable pub new_buckets : (Option Rec → Bool) → View → ℕ
new_buckets test view =
    count_by (λ bucket. some_in test (view.new bucket)) (range_with_len 0 NEW_BUCKETS)

-- there is a record, and its source is in the group
abbrev pub is_of : Places → List ℕ → Option Rec → Bool
is_of places g None = false
is_of places g (Some r) = bytes_eq (group places r.source) g
