use Rattle.std.proofs.Common.{arith}
use Rattle.node_json.proofs.Items.{one_ban_more}
use Rattle.node_json.proofs.bans.put_list.Goals as goal

pub loop-ban-preserved : goal.loop-ban-preserved
loop-ban-preserved c =
    one_ban_more c.args.rule c.args.now c.args.bans.now c.loop-ban.ban-index c.ban-item.result c.args.json.now c.loop-ban.json _ (omega (arith, c.loop-ban-test.true)) c.ban-item.is c.loop-ban.invariant c.in_ok-put_current.ensures
