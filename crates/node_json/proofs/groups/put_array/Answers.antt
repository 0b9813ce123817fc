use Rattle.std.proofs.Common.{◌++◌, ◌∙◌, ap, codes}
use Rattle.std.specs.List.{flat_map}
use Rattle.node_json.specs.Groups.{row_items}
use Rattle.node_json.proofs.Listed.{array_written, rows_tokens_are}
use Rattle.node_json.proofs.groups.put_array.Goals as goal

pub returns : goal.returns
returns c =
    let places = c.args.placer.now in
    let rows = c.args.rows.now in
    array_written (codes "groups") (flat_map (row_items places) rows) c.args.json.now _ _ _ _ c.in_ok-token.ensures.ok c.in_ok-token-2.ensures.ok
    (c.in_ok-put_rows.ensures ∙ ap (λ ts. c.token-2.new.self ++ ts) (rows_tokens_are (row_items places) rows))
    c.in_ok-token-3.ensures.ok
