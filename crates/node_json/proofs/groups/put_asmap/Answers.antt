use Rattle.std.proofs.Common.{codes}
use Rattle.node_json.specs.Groups.{health_members}
use Rattle.node_json.proofs.Tokens.{object_written}
use Rattle.node_json.proofs.groups.put_asmap.Goals as goal

pub returns : goal.returns
returns g c =
    object_written (codes "asmap") (health_members c.args.numbers.now) c.args.json.now _ _ _ c.in_ok-put_begin.ensures c.in_ok-put_health.ensures c.in_ok-token.ensures.ok
