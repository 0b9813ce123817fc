-- The groups of the sources in the slots of both tables, those with the most slots first.
use Rattle.std.specs.Prelude.{ℕ, List, [], ◌∷◌, ◌++◌, map, Bool, true, false, Option, Some, None}
use Rattle.std.specs.List.{flat_map, range_with_len}
use Rattle.peer_rec.specs.declared.rec.Rec.{Rec}
use Rattle.placing.specs.Places.{Places, group}
use Rattle.slot_grid.specs.declared.sizes.TheConstants.{NEW_BUCKETS, SLOTS, TRIED_BUCKETS}
use Rattle.table_groups.specs.Order.{in_order}
use Rattle.table_groups.specs.Slots.{all_slots, is_of, new_buckets, new_slots, tried_slots}
use Rattle.table_groups.specs.Tally.{once}
use Rattle.table_groups.specs.declared.ranked_groups.Counted.{Counted}
use Rattle.table_groups.specs.declared.sources.Source.{Source}
use Rattle.table_groups.specs.View.{View, occupant_at}

-- the group of the source in a record, if there is one
abbrev pub source_groups : Places → Option Rec → List (List ℕ)
source_groups places None = []
source_groups places (Some r) = group places r.source ∷ []

-- the groups of the occupied slots of a bucket
abbrev pub bucket_groups : View → Bool → ℕ → List (List ℕ)
bucket_groups view in_new bucket =
    flat_map (λ slot. source_groups view.places (occupant_at view in_new bucket slot))
    (range_with_len 0 SLOTS)

-- those of both tables
unfoldable pub slot_groups : View → List (List ℕ)
slot_groups view =
    flat_map (bucket_groups view true) (range_with_len 0 NEW_BUCKETS)
    ++ flat_map (bucket_groups view false) (range_with_len 0 TRIED_BUCKETS)

-- a group, and how many slots of both tables it has
abbrev pub counted_source : View → List ℕ → Counted
counted_source view g = record {
  group = record { items = g };
  slots = all_slots (is_of view.places g) view;
}

-- the same with the numbers of its slots in each table, and of its buckets of the new one
abbrev pub source_of : View → Counted → Source
source_of view c = record {
  group = record { items = c.group.items };
  new = new_slots (is_of view.places c.group.items) view;
  tried = tried_slots (is_of view.places c.group.items) view;
  buckets = new_buckets (is_of view.places c.group.items) view;
}

-- The groups of the sources with their numbers, the one with the most slots first.
unfoldable pub sources_of : View → List Source
sources_of view =
    map (source_of view) (in_order (map (counted_source view) (once (slot_groups view))))
