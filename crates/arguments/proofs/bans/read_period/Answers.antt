use Rattle.std.proofs.Common.{refl, rules}
use Rattle.arguments.proofs.BanForms.{no_period, no_words}
use Rattle.arguments.proofs.bans.read_period.Goals as goal

pub returns-in_default-clause-none : goal.returns-in_default-clause-none
returns-in_default-clause-none c = no_words _ _ _ 3 c.cut_ban_rule-rule.ensures.found c.cut_ban_rule-rule.ensures.only refl c.in_default.ensures.none

pub returns-in-None-clause-none : goal.returns-in-None-clause-none
returns-in-None-clause-none c =
    no_period _ _ _ 3 c.cut_ban_rule-rule.ensures.found c.cut_ban_rule-rule.ensures.only refl _ _ _ c.period_of.result c.in-Some.ensures.some c.period_of.ensures.only (search rules)
