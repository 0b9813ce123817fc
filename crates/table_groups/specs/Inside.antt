-- What records and slots add to the numbers of their groups, one after another.
use Rattle.std.specs.Prelude.{ℕ, ◌+◌, ◌≤◌, List, map, fold, true, false, Option, Some, None, if◌then◌else◌}
use Rattle.net_addr.specs.Address.{Address}
use Rattle.peer_rec.specs.Rec.{is_tried}
use Rattle.peer_rec.specs.declared.rec.Rec.{Rec}
use Rattle.placing.specs.Places.{Places}
use Rattle.slot_grid.specs.declared.sizes.TheConstants.{NEW_BUCKETS, TRIED_BUCKETS}
use Rattle.table_groups.specs.Groups.{counted_address, counted_group}
use Rattle.table_groups.specs.Sources.{bucket_groups}
use Rattle.table_groups.specs.Tally.{noted, tally_of, value_in}
use Rattle.table_groups.specs.Visits.{no_slots, visits_of, with_slot}
use Rattle.table_groups.specs.declared.ranked_groups.Counted.{Counted}
use Rattle.table_groups.specs.declared.group_records.RecordNumbers.{RecordNumbers}
use Rattle.table_groups.specs.declared.ranked_groups.Row.{Row}
use Rattle.table_groups.specs.declared.group_slots.SlotNumbers.{SlotNumbers}
use Rattle.table_groups.specs.declared.sources.Source.{Source}
use Rattle.table_groups.specs.View.{View}

-- RECORDS

-- The numbers of a group without records.
abbrev pub no_records : RecordNumbers
no_records = record { first = None; new = 0; tried = 0 }

-- The first address, or this one if there is none.
abbrev pub first_or : Option Address → Address → Option Address
first_or None a = Some a
first_or (Some first) a = Some first

-- The numbers of a group with another record.
abbrev pub with_record : RecordNumbers → Rec → RecordNumbers
with_record n r = record {
  first = first_or n.first (counted_address r);
  new = if is_tried r then n.new else n.new + 1;
  tried = if is_tried r then n.tried + 1 else n.tried;
}

-- Each record, with the group that it counts for.
abbrev pub record_visits : Places → List Rec → List (List ℕ × Rec)
record_visits places recs = map (λ r. (counted_group places r, r)) recs

-- The groups of some records, each with its numbers.
abbrev pub records_by : Places → List Rec → List (List ℕ × RecordNumbers)
records_by places recs = tally_of no_records with_record (record_visits places recs)

-- no group has more than n records of either table
abbrev pub AreFewRecords : ℕ → List (List ℕ × RecordNumbers) → Type 0
AreFewRecords n es = (g : List ℕ) → ((value_in no_records es g).new ≤ n)
    × ((value_in no_records es g).tried ≤ n)

-- SLOTS

-- what the slots of the new table add
unfoldable pub slots_by : View → List (List ℕ × SlotNumbers)
slots_by view =
    tally_of no_slots (with_slot true) (visits_of (bucket_groups view true) 0 NEW_BUCKETS)

-- the same, and those of the tried table after them
unfoldable pub all_by : View → List (List ℕ × SlotNumbers)
all_by view =
    fold (noted no_slots (with_slot false)) (slots_by view)
    (visits_of (bucket_groups view false) 0 TRIED_BUCKETS)

-- BOTH

-- a group with its slots of the new table and its records of the tried one
abbrev pub counted_in : List (List ℕ × RecordNumbers) → List (List ℕ × SlotNumbers) → List ℕ
    → Counted
counted_in records slots g = record {
  group = record { items = g };
  slots = (value_in no_slots slots g).slots + (value_in no_records records g).tried;
}

-- The row of a group, from the numbers of its records and of its slots.
abbrev pub row_in : List (List ℕ × RecordNumbers) → List (List ℕ × SlotNumbers) → List ℕ → Row
row_in records slots g = record {
  first = (value_in no_records records g).first;
  numbers = record {
    slots = (value_in no_slots slots g).slots;
    buckets = (value_in no_slots slots g).buckets;
    records = (value_in no_records records g).new;
    tried = (value_in no_records records g).tried;
  };
}

-- SOURCES

-- a group with its slots of both tables
abbrev pub counted_source_in : List (List ℕ × SlotNumbers) → List ℕ → Counted
counted_source_in slots g = record {
  group = record { items = g };
  slots = (value_in no_slots slots g).slots + (value_in no_slots slots g).tried;
}

-- The source of a group, from the numbers of its slots.
abbrev pub source_in : List (List ℕ × SlotNumbers) → List ℕ → Source
source_in slots g = record {
  group = record { items = g };
  new = (value_in no_slots slots g).slots;
  tried = (value_in no_slots slots g).tried;
  buckets = (value_in no_slots slots g).buckets;
}
