use Rattle.std.proofs.Common.{ap, ◌∙◌, ◌++◌}
use Rattle.json.specs.Tree.{json_tokens}
use Rattle.node_json.specs.Raw.{raw_json}
use Rattle.node_json.specs.Value.{IsJsonText}
use Rattle.node_json.proofs.Records.{raw_depth}
use Rattle.node_json.proofs.Tokens.{if_ok}
use Rattle.node_json.proofs.raw.raw_text.Goals as goal

pub returns : goal.returns
returns g c =
    let st = c.args.tables.now in
    if_ok _ (λ text. IsJsonText (raw_json st) text.items) c.with_end.result
    (λ text h. h (raw_json st) (c.in_ok-put_tables.ensures ∙ ap (λ ts. ts ++ json_tokens (raw_json st)) c.new-json.ensures) (raw_depth st)) c.with_end.ensures
