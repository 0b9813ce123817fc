use Rattle.std.proofs.Common.{ap, ◌∙◌, ◌++◌}
use Rattle.json.specs.Tree.{json_tokens}
use Rattle.node_json.specs.Bans.{bans_json}
use Rattle.node_json.specs.Value.{IsJsonText}
use Rattle.node_json.proofs.Items.{bans_depth}
use Rattle.node_json.proofs.Tokens.{if_ok}
use Rattle.node_json.proofs.bans.bans_text.Goals as goal

pub returns : goal.returns
returns c =
    let rule = c.args.rule in
    let now = c.args.now in
    let bans = c.args.bans.now in
    if_ok _ (λ text. IsJsonText (bans_json rule now bans) text.items) c.with_end.result
    (λ text h. h (bans_json rule now bans) (c.in_ok-put_bans.ensures ∙ ap (λ ts. ts ++ json_tokens (bans_json rule now bans)) c.new-json.ensures) (bans_depth rule now bans)) c.with_end.ensures
