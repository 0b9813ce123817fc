use Rattle.std.proofs.Common.{codes}
use Rattle.node_json.specs.Groups.{totals_by}
use Rattle.node_json.proofs.Tokens.{object_written}
use Rattle.node_json.proofs.groups.put_totals.Goals as goal

pub returns : goal.returns
returns c =
    object_written (codes "totals") (totals_by c.args.groups c.args.slots c.args.records c.args.tried) c.args.json.now _ _ _ c.in_ok-put_begin.ensures
    c.in_ok-put_numbers_of_all.ensures c.in_ok-token.ensures.ok
