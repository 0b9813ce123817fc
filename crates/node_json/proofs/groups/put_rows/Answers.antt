use Rattle.std.proofs.Common.{◌++◌, ◌∙◌, ap}
use Rattle.table_groups.specs.declared.ranked_groups.Row.{Row}
use Rattle.node_json.specs.Groups.{row_items}
use Rattle.node_json.specs.Inside.{items_tokens_of}
use Rattle.node_json.proofs.Listed.{row_step}
use Rattle.node_json.proofs.groups.put_rows.Goals as goal

pub loop-row-preserved : goal.loop-row-preserved
loop-row-preserved c =
    row_step (λ row. items_tokens_of (row_items c.args.placer.now row)) c.args.rows.now c.loop-row.row-index c.row-item.result c.args.json.now c.loop-row.json _
    c.loop-row-test.true c.loop-row.invariant (c.in_ok-put_row.ensures ∙ ap (λ (row : Row). c.loop-row.json ++ items_tokens_of (row_items c.args.placer.now row)) c.row-item.is)
