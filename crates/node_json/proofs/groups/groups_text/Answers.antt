use Rattle.std.proofs.Common.{◌∙◌, ◌++◌, ap}
use Rattle.json.specs.Tree.{json_tokens}
use Rattle.node_json.specs.Groups.{groups_json, groups_members}
use Rattle.node_json.proofs.Listed.{groups_depth}
use Rattle.node_json.proofs.Tokens.{object_value}
use Rattle.node_json.proofs.groups.groups_text.Goals as goal

pub returns : goal.returns
unfolding groups_json
returns g c =
    let view = (g.T.TableView.view c.args.tables.now) in
    c.in_ok-with_end.ensures (groups_json view)
    (object_value (groups_members view) c.new-json.result _ _ _ c.in_ok-token.ensures.ok c.in_ok-put_members.ensures c.in_ok-token-2.ensures.ok ∙ ap (λ ts. ts ++ json_tokens (groups_json view)) c.new-json.ensures)
    (groups_depth view)
