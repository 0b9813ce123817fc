use Rattle.node_json.specs.Raw.{both_members, raw_json}
use Rattle.node_json.proofs.Tokens.{object_value}
use Rattle.node_json.proofs.raw.put_tables.Goals as goal

pub returns : goal.returns
unfolding raw_json
returns g c =
    object_value (both_members c.args.tables.now) c.args.json.now _ _ _ c.in_ok-token.ensures.ok c.in_ok-put_both.ensures c.in_ok-token-2.ensures.ok
