use Rattle.std.proofs.Common.{ap, ◌∙◌, ◌++◌}
use Rattle.json.specs.Tree.{json_tokens}
use Rattle.node_json.specs.Info.{info_json}
use Rattle.node_json.specs.Value.{IsJsonText}
use Rattle.node_json.proofs.Counts.{info_depth}
use Rattle.node_json.proofs.Tokens.{if_ok}
use Rattle.node_json.proofs.info.info_text.Goals as goal

pub returns : goal.returns
returns g c =
    let view = (g.T.TableView.view c.args.tables.now) in
    if_ok _ (λ text. IsJsonText (info_json view) text.items) c.with_end.result
    (λ text h. h (info_json view) (c.in_ok-put_rows.ensures ∙ ap (λ ts. ts ++ json_tokens (info_json view)) c.new-json.ensures) (info_depth view)) c.with_end.ensures
