use Rattle.arguments.proofs.BanForms.{no_ban_fields}
use Rattle.arguments.proofs.read.read_for_bans.Goals as goal

pub returns-in-None-clause-none : goal.returns-in-None-clause-none
returns-in-None-clause-none g c =
    no_ban_fields _ _ _ c.args.count c.cut_ban_rule-rule.ensures.found c.cut_ban_rule-rule.ensures.only g.R.Fields.kinds c.requires.count c.in-None.ensures.none
