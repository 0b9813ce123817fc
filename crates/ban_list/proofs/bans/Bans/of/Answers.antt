use Rattle.std.proofs.Common.{sym, subst, arith, []}
use Rattle.ban_list.specs.Bans.{AreBans}
use Rattle.ban_list.proofs.Merging.{AreBans-merged, none-sound}
use Rattle.ban_list.proofs.bans.Bans.of.Goals as goal

pub invariant_of-result : goal.invariant_of-result
invariant_of-result c = subst AreBans (sym c.in_ok-merge.ensures) (AreBans-merged [] c.args.bans.now c.requires.proper none-sound (omega (arith, c.requires.few)))
