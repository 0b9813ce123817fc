use Rattle.picture_text.proofs.Rows.{one_more}
use Rattle.table_picture.specs.Marks.{bucket_marks}
use Rattle.table_picture.proofs.marks.put_table.Goals as goal

pub loop-bucket-preserved : goal.loop-bucket-preserved
loop-bucket-preserved g c =
    one_more (bucket_marks (g.T.TableView.view c.args.tables.now) c.args.listed.now c.args.in_new) c.args.out.now.items c.loop-bucket.bucket c.loop-bucket.out.items c.put_bucket.new.out.items c.loop-bucket.invariant c.in_ok-put_bucket.ensures
