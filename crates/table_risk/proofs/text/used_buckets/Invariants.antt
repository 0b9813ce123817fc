use Rattle.std.proofs.Common.{◌≡◌, ◌≤◌, count_by, is_some}
use Rattle.std.specs.List.{range_with_len}
use Rattle.table_groups.specs.Slots.{some_in}
use Rattle.table_groups.specs.View.{occupant_at}
use Rattle.table_risk.proofs.text.used_buckets.Given as goal

abbrev pub invariant-loop-bucket : goal.invariant-loop-bucket
invariant-loop-bucket g l = record {
  value : l.count ≡ count_by (λ bucket. some_in is_some (occupant_at (g.T.TableView.view l.tables) l.in_new bucket)) (range_with_len 0 l.bucket);
  few : l.count ≤ l.bucket;
}
