use Rattle.std.proofs.Common.{map, ap, sym, ◌∙◌}
use Rattle.table_risk.specs.Inside.{class_value, classes_share, side_value}
use Rattle.table_risk.proofs.RowsOf.{below_whole, is_share, whole}
use Rattle.table_risk.proofs.rows.share_in.Goals as goal

pub returns-then-share-lt-WHOLE-clause-is : goal.returns-then-share-lt-WHOLE-clause-is
returns-then-share-lt-WHOLE-clause-is g c =
    below_whole (side_value c.args.side.now) c.args.group.now.items c.share-share.result (sym c.is_none.ensures ∙ c.if-is_none.false)
    (is_share (map class_value c.as_slice.result.now) c.args.group.now.items c.share-share.result c.share-share.ensures ∙ ap (λ cs. classes_share (map class_value cs) c.args.group.now.items) c.as_slice.ensures.value)
    c.if-share-lt-WHOLE.true

pub returns-else-share-lt-WHOLE-clause-is : goal.returns-else-share-lt-WHOLE-clause-is
returns-else-share-lt-WHOLE-clause-is g c =
    whole (side_value c.args.side.now) c.args.group.now.items c.share-share.result (sym c.is_none.ensures ∙ c.if-is_none.false)
    (is_share (map class_value c.as_slice.result.now) c.args.group.now.items c.share-share.result c.share-share.ensures ∙ ap (λ cs. classes_share (map class_value cs) c.args.group.now.items) c.as_slice.ensures.value)
    c.if-share-lt-WHOLE.false
