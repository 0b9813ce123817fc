use Rattle.std.proofs.Common.{◌+◌, ◌∷◌, ◌++◌, ◌∙◌, [], codes}
use Rattle.node_json.specs.Info.{counts_json}
use Rattle.node_json.specs.Inside.{tokens_of}
use Rattle.node_json.specs.Value.{json_number}
use Rattle.node_json.proofs.Tokens.{object_written, three_parts}
use Rattle.node_json.proofs.info.put_row.Goals as goal

pub returns : goal.returns
returns c =
    let new = c.from-new.result in
    let tried = c.from-tried.result in
    object_written c.args.name.now ((codes "new", json_number new) ∷ (codes "tried", json_number tried) ∷ (codes "total", json_number (new + tried)) ∷ []) c.args.json.now _ _ _ c.in_ok-put_begin.ensures
    (three_parts c.put_begin.new.json _ _ _ _ _ _ c.in_ok-put_number.ensures c.in_ok-put_number-2.ensures c.in_ok-put_number-3.ensures)
    c.in_ok-token.ensures.ok
    ∙ (λ i. c.args.json.now ++ tokens_of ((c.args.name.now, counts_json (c.from-new.ensures i) (c.from-tried.ensures i)) ∷ []))
