use Rattle.std.proofs.Common.{◌≡◌, fold}
use Rattle.table_groups.specs.Sources.{bucket_groups}
use Rattle.table_groups.specs.Tally.{by_bytes, noted}
use Rattle.table_groups.specs.Visits.{AreFewSlots, no_slots, slots_before, visits_of, with_slot}
use Rattle.table_groups.proofs.group_slots.note_table.Given as goal

-- the buckets before this one are counted
abbrev pub invariant-loop-bucket : goal.invariant-loop-bucket
invariant-loop-bucket g l = record {
  counted : by_bytes l.tally.entries ≡ fold (noted no_slots (with_slot l.in_new)) (by_bytes l.initial.tally.entries) (visits_of (bucket_groups (g.T.TableView.view l.tables) l.in_new) 0 l.bucket);
  few : AreFewSlots (slots_before l.in_new l.bucket) (by_bytes l.tally.entries);
}
