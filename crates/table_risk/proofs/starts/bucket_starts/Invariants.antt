use Rattle.std.proofs.Common.{◌≡◌, ◌*◌, ◌≤◌, true, take, sum_by}
use Rattle.net_addr.specs.NetSet.{all}
use Rattle.placing.specs.Places.{new_slot}
use Rattle.table_laws.specs.Chances.{leading_slots}
use Rattle.table_risk.proofs.starts.bucket_starts.Given as goal

abbrev pub invariant-loop-bucket : goal.invariant-loop-bucket
invariant-loop-bucket g l = record {
  value : l.sum ≡ sum_by (λ b. leading_slots l.tables true all b (new_slot l.tables.places l.peer b)) (take l.bucket-index l.buckets);
  few : l.sum ≤ l.bucket-index * 128;
}
