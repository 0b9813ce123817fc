use Rattle.std.proofs.Common.{◌≡◌, ◌≤◌, ◌*◌}
use Rattle.std.specs.Prelude.{is_some}
use Rattle.std.specs.List.{range_with_len, sum_by}
use Rattle.table_groups.specs.Slots.{slots_in}
use Rattle.table_groups.proofs.group_slots.new_slots.Given as goal

-- the occupied slots of the buckets before this one
abbrev pub invariant-loop-bucket : goal.invariant-loop-bucket
invariant-loop-bucket g l = record {
  count : l.count ≡ sum_by (λ bucket. slots_in is_some ((g.T.TableView.view l.tables).new bucket)) (range_with_len 0 l.bucket);
  few : l.count ≤ 64 * l.bucket;
}
