use Rattle.std.proofs.Common.{◌≡◌, ◌++◌, map, take}
use Rattle.ban_list.specs.Bans.{current_by}
use Rattle.node_json.specs.Bans.{ban_json}
use Rattle.node_json.specs.Inside.{items_tokens_of}
use Rattle.node_json.proofs.bans.put_list.Given as goal

abbrev pub invariant-loop-ban : goal.invariant-loop-ban
invariant-loop-ban l =
    l.json ≡ l.fn.json ++ items_tokens_of (map (ban_json l.now) (current_by l.rule l.now (take l.ban-index l.bans)))
