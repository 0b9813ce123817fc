use Rattle.std.proofs.Common.{arith}
use Rattle.std.specs.Prelude.{is_some}
use Rattle.table_groups.proofs.Buckets.{sum-all, sum-more}
use Rattle.table_groups.specs.Slots.{new_slots, slots_in}
use Rattle.table_groups.proofs.group_slots.new_slots.Goals as goal

pub loop-bucket-preserved : goal.loop-bucket-preserved
loop-bucket-preserved g c = record {
  count = sum-more (λ bucket. slots_in is_some ((g.T.TableView.view c.args.tables.now).new bucket)) c.loop-bucket.bucket c.loop-bucket.count c.slots_in-count.result c.loop-bucket.invariant.count
      c.slots_in-count.ensures.count;
  few = omega (arith, c.loop-bucket.invariant.few, c.slots_in-count.ensures.few);
}

pub returns-clause-count : goal.returns-clause-count
unfolding new_slots
returns-clause-count g c =
    sum-all (λ bucket. slots_in is_some ((g.T.TableView.view c.args.tables.now).new bucket)) c.loop-bucket.bucket 1024 c.loop-bucket.count (omega arith) c.loop-bucket.invariant.count
