use Rattle.std.proofs.Common.{◌∙◌}
use Rattle.table_picture.specs.Marks.{rec_mark}
use Rattle.table_picture.proofs.Rows.{mark_more}
use Rattle.table_picture.proofs.marks.put_bucket.Goals as goal
use Rattle.table_groups.specs.View.{occupant_at}

pub loop-slot-preserved : goal.loop-slot-preserved
loop-slot-preserved g c =
    mark_more (λ slot. rec_mark (g.T.TableView.view c.args.tables.now).places c.args.listed.now (occupant_at (g.T.TableView.view c.args.tables.now) c.args.in_new c.args.bucket slot)) c.args.out.now.items c.loop-slot.slot c.rec_mark-mark.result
    c.loop-slot.out.items c.push.new.self.items c.loop-slot.invariant c.in_ok-push.ensures.items
    (c.rec_mark-mark.ensures ∙ (λ i. rec_mark (c.places.ensures i) c.args.listed.now (c.occupant.ensures i)))
