use Rattle.std.proofs.Common.{◌≡◌, map}
use Rattle.ban_list.proofs.bans.merge.Given as goal

-- the bans already merged
abbrev pub invariant-loop-ban : goal.invariant-loop-ban
invariant-loop-ban l = l.list.items ≡ map (λ ban. ban.now) l.yielded
