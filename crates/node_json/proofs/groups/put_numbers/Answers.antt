use Rattle.std.proofs.Common.{◌∷◌, ◌++◌, ◌∙◌, [], codes}
use Rattle.node_json.specs.Groups.{number_members}
use Rattle.node_json.specs.Inside.{tokens_of}
use Rattle.node_json.specs.Value.{json_number}
use Rattle.node_json.proofs.Tokens.{three_parts, two_parts}
use Rattle.node_json.proofs.groups.put_numbers.Goals as goal

pub returns : goal.returns
unfolding number_members
returns c =
    two_parts c.args.json.now _ _ _ _ (three_parts c.args.json.now _ _ _ _ _ _ c.in_ok-put_number.ensures c.in_ok-put_number-2.ensures c.in_ok-put_number-3.ensures) c.in_ok-put_number-4.ensures
    ∙ (λ i. c.args.json.now ++ tokens_of ((codes "new_slots", json_number (c.from.ensures i)) ∷ (codes "new_buckets", json_number (c.from-2.ensures i))
    ∷ (codes "new_records", json_number (c.from-3.ensures i)) ∷ (codes "tried_records", json_number (c.from-4.ensures i)) ∷ []))
