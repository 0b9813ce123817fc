-- What the slots of both tables add to the numbers of their groups.
use Rattle.std.specs.Prelude.{ℕ, ◌+◌, ◌*◌, ◌≤◌, ◌==◌, Bool, true, false, List, map, Option, Some, None, if◌then◌else◌}
use Rattle.std.specs.List.{flat_map, range_with_len}
use Rattle.slot_grid.specs.declared.sizes.TheConstants.{NEW_SLOTS, SLOTS}
use Rattle.table_groups.specs.Tally.{value_in}
use Rattle.table_groups.specs.declared.group_slots.SlotNumbers.{SlotNumbers}

-- The numbers of a group without slots.
abbrev pub no_slots : SlotNumbers
no_slots = record { slots = 0; buckets = 0; tried = 0; last = None }

-- whether the bucket is the last one
abbrev pub is_last : Option ℕ → ℕ → Bool
is_last None bucket = false
is_last (Some last) bucket = last == bucket

-- one slot more, in this bucket of the new table
abbrev pub with_new : SlotNumbers → ℕ → SlotNumbers
with_new n bucket = record {
  slots = n.slots + 1;
  buckets = if is_last n.last bucket then n.buckets else n.buckets + 1;
  tried = n.tried;
  last = Some bucket;
}

-- one slot more of the tried table
abbrev pub with_tried : SlotNumbers → SlotNumbers
with_tried n = record { slots = n.slots; buckets = n.buckets; tried = n.tried + 1; last = n.last }

-- one slot more, in this bucket of the new table or of the tried one
abbrev pub with_slot : Bool → SlotNumbers → ℕ → SlotNumbers
with_slot true n bucket = with_new n bucket
with_slot false n bucket = with_tried n

-- the visits of a bucket, by the groups of its occupied slots
abbrev pub in_bucket : (ℕ → List (List ℕ)) → ℕ → List (List ℕ × ℕ)
in_bucket groups bucket = map (λ g. (g, bucket)) (groups bucket)

-- the visits of n buckets, from one on
abbrev pub visits_of : (ℕ → List (List ℕ)) → ℕ → ℕ → List (List ℕ × ℕ)
visits_of groups from n = flat_map (in_bucket groups) (range_with_len from n)

-- how many slots are counted before those of a bucket: the new table comes first
abbrev pub slots_before : Bool → ℕ → ℕ
slots_before true bucket = SLOTS * bucket
slots_before false bucket = NEW_SLOTS + SLOTS * bucket

-- no group has more than n slots of a table or buckets
abbrev pub AreFewSlots : ℕ → List (List ℕ × SlotNumbers) → Type 0
AreFewSlots n es = (g : List ℕ) → ((value_in no_slots es g).slots ≤ n)
    × ((value_in no_slots es g).buckets ≤ n) × ((value_in no_slots es g).tried ≤ n)
