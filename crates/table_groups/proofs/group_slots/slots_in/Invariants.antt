use Rattle.std.proofs.Common.{◌≡◌, ◌≤◌}
use Rattle.std.specs.Prelude.{count_by, is_some}
use Rattle.std.specs.List.{range_with_len}
use Rattle.table_groups.proofs.group_slots.slots_in.Given as goal

-- the occupied slots before this one
abbrev pub invariant-loop-slot : goal.invariant-loop-slot
invariant-loop-slot g l = record {
  count : l.count ≡ count_by (λ slot. is_some ((g.T.TableView.view l.tables).new l.bucket slot)) (range_with_len 0 l.slot);
  few : l.count ≤ l.slot;
}
