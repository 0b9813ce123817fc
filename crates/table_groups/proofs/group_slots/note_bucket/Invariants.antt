use Rattle.std.proofs.Common.{◌≡◌, ◌+◌, fold, map}
use Rattle.std.specs.List.{flat_map, range_with_len}
use Rattle.table_groups.specs.Sources.{source_groups}
use Rattle.table_groups.specs.Tally.{by_bytes, noted}
use Rattle.table_groups.specs.Visits.{AreFewSlots, no_slots, slots_before, with_slot}
use Rattle.table_groups.proofs.group_slots.note_bucket.Given as goal
use Rattle.table_groups.specs.View.{occupant_at}

-- the slots before this one are counted
abbrev pub invariant-loop-slot : goal.invariant-loop-slot
invariant-loop-slot g l = record {
  counted : by_bytes l.tally.entries ≡ fold (noted no_slots (with_slot l.in_new)) (by_bytes l.initial.tally.entries)
      (map (λ g. (g, l.bucket)) (flat_map (λ slot. source_groups (g.T.TableView.view l.tables).places (occupant_at (g.T.TableView.view l.tables) l.in_new l.bucket slot)) (range_with_len 0 l.slot)));
  few : AreFewSlots (slots_before l.in_new l.bucket + l.slot) (by_bytes l.tally.entries);
}
