use Rattle.arguments.proofs.Choosing.{no_chain}
use Rattle.arguments.proofs.options.cut_chain.Goals as goal

pub returns-in-None-clause-none : goal.returns-in-None-clause-none
returns-in-None-clause-none c = no_chain _ c.in_default.ensures.none c.in-None.ensures.none
