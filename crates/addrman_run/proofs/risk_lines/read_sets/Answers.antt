use Rattle.ban_list.specs.declared.ban.BanRule.TheVariants.{Labels}
use Rattle.addrman_run.proofs.ReadingSets.{proper_read, sets_read_by}
use Rattle.addrman_run.proofs.risk_lines.read_sets.Goals as goal

pub returns-clause-read_in : goal.returns-clause-read_in
returns-clause-read_in g c =
    sets_read_by (λ w. w) _ _ _ _ _ c.run_log.result c.run_log.ensures.ran.ran c.requires c.run_log.ensures.ran.same_world

pub returns-clause-proper : goal.returns-clause-proper
returns-clause-proper g c =
    proper_read (λ text s is. c.texts_have_one_meaning.ensures.proper Labels text s is) _ _ _ c.run_log.result
    (sets_read_by (λ w. w) _ _ _ _ _ c.run_log.result c.run_log.ensures.ran.ran c.requires c.run_log.ensures.ran.same_world)
