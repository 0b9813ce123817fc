use Rattle.std.proofs.Common.{rules, not}
use Rattle.std.proofs.lemmas.Fn.{filter_same}
use Rattle.ban_list.specs.Bans.{is_of}
use Rattle.ban_list.specs.declared.ban.Ban.{Ban}
use Rattle.ban_list.proofs.bans.drop_subnet.Goals as goal

pub returns : goal.returns
returns c = filter_same _ (λ (ban : Ban). not (is_of c.args.subnet.now ban)) _ (λ x b f' k. search rules) _ _ c.retain.ensures.filtered
