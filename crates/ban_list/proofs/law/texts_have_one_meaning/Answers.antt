use Rattle.ban_list.proofs.Named.{one_subnet_by, proper_text_by}
use Rattle.ban_list.proofs.law.texts_have_one_meaning.Goals as goal

pub returns-clause-one : goal.returns-clause-one
returns-clause-one c = one_subnet_by

pub returns-clause-proper : goal.returns-clause-proper
returns-clause-proper c = proper_text_by
