use Rattle.std.proofs.Common.{◌∷◌, ◌++◌, ◌∙◌, [], codes, length}
use Rattle.node_json.specs.Groups.{health_members}
use Rattle.node_json.specs.Inside.{tokens_of}
use Rattle.node_json.specs.Value.{json_number}
use Rattle.node_json.proofs.Tokens.{three_parts}
use Rattle.node_json.proofs.groups.put_health.Goals as goal

pub returns : goal.returns
unfolding health_members
returns g c =
    three_parts c.args.json.now _ _ _ _ _ _ c.in_ok-put_number.ensures c.in_ok-put_number-2.ensures c.in_ok-put_number-3.ensures
    ∙ (λ i. c.args.json.now ++ tokens_of ((codes "clearnet_peers", json_number (length c.args.numbers.now)) ∷ (codes "as_numbers", json_number (c.in_ok-known.ensures i))
    ∷ (codes "unmapped", json_number ((c.from.ensures ∙ c.count_unmapped.ensures) i)) ∷ []))
