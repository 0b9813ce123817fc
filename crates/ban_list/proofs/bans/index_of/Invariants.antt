use Rattle.std.proofs.Common.{◌≡◌, ℕ, ◌<◌, false, get_or}
use Rattle.ban_list.specs.Bans.{is_of}
use Rattle.ban_list.specs.declared.ban.Ban.{Ban}
use Rattle.ban_list.proofs.bans.index_of.Given as goal

-- none of the bans before this one is of the subnet
abbrev pub invariant-loop-i : goal.invariant-loop-i
invariant-loop-i l = (k : ℕ) (d : Ban) → k < l.i → is_of l.subnet (get_or l.bans k d) ≡ false
