use Rattle.arguments.proofs.Asking.{no_lookup}
use Rattle.arguments.proofs.read.read_lookup.Goals as goal

pub returns-in-None-clause-none : goal.returns-in-None-clause-none
returns-in-None-clause-none c = no_lookup _ _ c.is_dash.ensures c.if-is_dash.false c.in-None.ensures.none
