use Rattle.std.proofs.Common.{[]}
use Rattle.table_risk.specs.Occupants.{bucket_occupants}
use Rattle.table_risk.proofs.Slots.{one_more}
use Rattle.table_risk.proofs.occupants.occupants_of.Goals as goal

pub loop-bucket-preserved : goal.loop-bucket-preserved
loop-bucket-preserved g c =
    one_more (bucket_occupants (g.T.TableView.view c.args.tables.now) c.args.in_new) [] c.loop-bucket.bucket c.loop-bucket.found.items c.put_bucket.new.out.items
    c.loop-bucket.invariant c.in_ok-put_bucket.ensures
