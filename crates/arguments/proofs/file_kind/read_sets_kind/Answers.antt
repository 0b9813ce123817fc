use Rattle.std.proofs.Common.{rules}
use Rattle.arguments.proofs.Asking.{no_sets}
use Rattle.arguments.proofs.file_kind.read_sets_kind.Goals as goal

pub returns-in-None-clause-none : goal.returns-in-None-clause-none
returns-in-None-clause-none c = no_sets _ _ _ c.cut_rule-rule.ensures.found c.cut_rule-rule.ensures.none _ (search rules) c.read_after_word.ensures.only
