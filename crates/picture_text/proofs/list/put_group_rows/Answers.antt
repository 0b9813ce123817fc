use Rattle.std.proofs.Common.{◌++◌, map, ◌∙◌}
use Rattle.picture_text.specs.Maps.{name_at}
use Rattle.picture_text.specs.Picture.{group_row, source_at}
use Rattle.picture_text.proofs.Rows.{one_more}
use Rattle.picture_text.proofs.list.put_group_rows.Goals as goal

pub loop-index-preserved : goal.loop-index-preserved
loop-index-preserved c =
    one_more (λ index. group_row (source_at c.args.listed.now index) (name_at (map (λ v. v.items) c.args.names.now) index) index) c.args.out.now.items c.loop-index.index c.loop-index.out.items c.put_group_row.new.out.items c.loop-index.invariant
    (c.in_ok-put_group_row.ensures ∙ (λ i. c.loop-index.out.items ++ group_row (c.source_at.ensures i) (c.name_at.ensures i) c.loop-index.index))
