use Rattle.std.proofs.Common.{subst, sym}
use Rattle.ban_list.specs.Bans.{lasts}
use Rattle.ban_list.specs.Bans.{AreBans}
use Rattle.ban_list.specs.declared.ban.Ban.{Ban}
use Rattle.ban_list.proofs.BanLaws.{AreBans-filter, AreBans-reply_outcome}
use Rattle.ban_list.proofs.bans.Bans.ban_by.Goals as goal

pub invariant_of-self-2 : goal.invariant_of-self-2
invariant_of-self-2 c =
    let before = subst AreBans (sym c.reserve.ensures.items) c.self.invariant in
    let left = subst AreBans (sym c.drop_over.ensures.items) (AreBans-filter (λ (ban : Ban). lasts c.args.rule c.args.now ban) c.reserve.new.self.items before) in
    subst AreBans (sym c.put_longer.ensures.bans) (AreBans-reply_outcome _ c.drop_over.new.bans.items c.requires left)
