use Rattle.arguments.proofs.Choosing.{no_key_none}
use Rattle.arguments.proofs.options.without_no_key.Goals as goal

pub returns-in-None-clause-none : goal.returns-in-None-clause-none
returns-in-None-clause-none c = no_key_none _ c.in_default.ensures.none c.in-None.ensures.none
