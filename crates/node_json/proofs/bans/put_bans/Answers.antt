use Rattle.std.proofs.Common.{map}
use Rattle.ban_list.specs.Bans.{current_by}
use Rattle.node_json.specs.Bans.{ban_json, bans_json}
use Rattle.node_json.proofs.Items.{array_value}
use Rattle.node_json.proofs.bans.put_bans.Goals as goal

pub returns : goal.returns
unfolding bans_json
returns c =
    array_value (map (ban_json c.args.now) (current_by c.args.rule c.args.now c.args.bans.now)) c.args.json.now _ _ _ c.in_ok-token.ensures.ok c.in_ok-put_list.ensures c.in_ok-token-2.ensures.ok
