use Rattle.std.proofs.Common.{refl, rules}
use Rattle.arguments.proofs.BanForms.{no_subnet, no_word}
use Rattle.arguments.proofs.bans.read_subnet.Goals as goal

pub returns-in_default-clause-none : goal.returns-in_default-clause-none
returns-in_default-clause-none c = no_word _ _ _ 1 c.cut_ban_rule-rule.ensures.found c.cut_ban_rule-rule.ensures.only refl c.in_default.ensures.none

pub returns-in-None-clause-none : goal.returns-in-None-clause-none
returns-in-None-clause-none c =
    no_subnet _ _ _ 1 c.cut_ban_rule-rule.ensures.found c.cut_ban_rule-rule.ensures.only refl _ c.parse_subnet_by.result c.in-Some.ensures.some c.parse_subnet_by.ensures.only (search rules)
