use Rattle.std.proofs.Common.{◌∷◌, ◌++◌, ◌∙◌, [], ap, codes}
use Rattle.json.specs.Json.{string}
use Rattle.node_json.specs.Bans.{ban_members}
use Rattle.node_json.specs.Inside.{span_tokens, time_tokens, tokens_of}
use Rattle.node_json.proofs.Tokens.{object_value, two_parts}
use Rattle.node_json.proofs.bans.put_ban.Goals as goal

pub returns : goal.returns
unfolding span_tokens
returns c =
    object_value (ban_members c.args.now c.args.ban.now) c.args.json.now _ _ _ c.in_ok-token.ensures.ok
    (two_parts c.token.new.self _ (time_tokens c.args.now c.args.ban.now) _ _
    (c.in_ok-put_string.ensures ∙ ap (λ n. c.token.new.self ++ tokens_of ((codes "address", string n) ∷ [])) (c.as_str.ensures.value ∙ c.in_ok-name.ensures))
    c.in_ok-put_times.ensures)
    c.in_ok-token-2.ensures.ok
