use Rattle.table_groups.proofs.Buckets.{bucket-more}
use Rattle.table_groups.specs.Sources.{bucket_groups}
use Rattle.table_groups.specs.Tally.{by_bytes}
use Rattle.table_groups.proofs.group_slots.note_table.Goals as goal

pub loop-bucket-preserved : goal.loop-bucket-preserved
loop-bucket-preserved g c = record {
  counted = bucket-more c.args.in_new (bucket_groups (g.T.TableView.view c.args.tables.now) c.args.in_new) c.loop-bucket.bucket (by_bytes c.args.tally.now.entries) (by_bytes c.loop-bucket.tally.entries)
      (by_bytes c.note_bucket.new.tally.entries) c.loop-bucket.invariant.counted c.in_ok-note_bucket.ensures.visits;
  few = c.in_ok-note_bucket.ensures.few;
}
