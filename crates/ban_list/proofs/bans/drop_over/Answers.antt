use Rattle.std.proofs.Common.{rules}
use Rattle.std.proofs.lemmas.Fn.{filter_same}
use Rattle.ban_list.specs.Bans.{lasts}
use Rattle.ban_list.specs.declared.ban.Ban.{Ban}
use Rattle.ban_list.proofs.bans.drop_over.Goals as goal

pub returns-clause-items : goal.returns-clause-items
returns-clause-items c = filter_same _ (λ (ban : Ban). lasts c.args.rule c.args.now ban) _ (λ x b f' k. search rules) _ _ c.retain.ensures.filtered
