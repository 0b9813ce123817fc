-- The network groups of the tables, each as its bytes: which records count for it, and how many
-- slots, buckets and records it has.
use Rattle.std.specs.Prelude.{ℕ, ◌+◌, ◌&&◌, not, Bool, List, map, Option, bytes_eq, count_by, find, option_map, if◌then◌else◌}
use Rattle.net_addr.specs.Address.{Address}
use Rattle.peer_rec.specs.Rec.{is_tried}
use Rattle.peer_rec.specs.declared.rec.Rec.{Rec}
use Rattle.placing.specs.Places.{Places, group}
use Rattle.table_groups.specs.Order.{in_order}
use Rattle.table_groups.specs.Slots.{is_of, new_buckets, new_slots}
use Rattle.table_groups.specs.Tally.{once}
use Rattle.table_groups.specs.declared.ranked_groups.Counted.{Counted}
use Rattle.table_groups.specs.declared.ranked_groups.Numbers.{Numbers}
use Rattle.table_groups.specs.declared.ranked_groups.Row.{Row}
use Rattle.table_groups.specs.View.{View}

-- WHAT COUNTS

-- the address whose group counts: the source in a record of the new table, which its buckets depend
-- on, and the peer in one of the tried table
abbrev pub counted_address : Rec → Address
counted_address r = if is_tried r then r.peer.addr else r.source

-- the group that a record counts for
abbrev pub counted_group : Places → Rec → List ℕ
counted_group places r = group places (counted_address r)

-- the record counts for this group
abbrev pub counts_for : Places → List ℕ → Rec → Bool
counts_for places g r = bytes_eq g (counted_group places r)

-- A GROUP

-- its slots and buckets of the new table, by the sources of the records there, and its records of
-- either table
abbrev pub numbers_of : View → List ℕ → Numbers
numbers_of view g = record {
  slots = new_slots (is_of view.places g) view;
  buckets = new_buckets (is_of view.places g) view;
  records = count_by (λ r. not (is_tried r) && counts_for view.places g r) view.records;
  tried = count_by (λ r. is_tried r && counts_for view.places g r) view.records;
}

-- the address of its first record
abbrev pub first_of : View → List ℕ → Option Address
first_of view g = option_map counted_address (find (counts_for view.places g) view.records)

-- THE GROUPS IN ORDER

-- the group, and how many slots of the new table and records of the tried one it has
abbrev pub counted_of : View → List ℕ → Counted
counted_of view g = record {
  group = record { items = g };
  slots = (numbers_of view g).slots + (numbers_of view g).tried;
}

-- the groups that a record counts for
unfoldable pub groups_in : View → List Counted
groups_in view =
    in_order (map (counted_of view) (once (map (counted_group view.places) view.records)))

-- A group with its first address and its numbers.
abbrev pub row_of : View → Counted → Row
row_of view c = record {
  first = first_of view c.group.items;
  numbers = numbers_of view c.group.items;
}

-- All groups with their numbers, the one with the most slots first.
unfoldable pub rows_of : View → List Row
rows_of view = map (row_of view) (groups_in view)
