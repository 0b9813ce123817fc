use Rattle.std.proofs.Common.{ap, ◌∙◌}
use Rattle.std.specs.Prelude.{find}
use Rattle.ban_list.specs.Bans.{stops}
use Rattle.ban_list.proofs.BanLaws.{found_proper}
use Rattle.ban_list.proofs.bans.Bans.covering.Goals as goal

pub returns-clause-proper : goal.returns-clause-proper
returns-clause-proper c = found_proper _ (stops c.args.addr.now c.args.now) c.args.self.now (c.first_that_stops.ensures ∙ ap (find (stops c.args.addr.now c.args.now)) c.bans.ensures.value) c.bans.ensures.sound
