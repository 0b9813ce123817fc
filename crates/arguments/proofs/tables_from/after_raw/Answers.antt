use Rattle.std.proofs.Common.{codes}
use Rattle.arguments.proofs.tables_from.after_raw.Goals as goal

pub returns-in_default-clause-none : goal.returns-in_default-clause-none
returns-in_default-clause-none c = λ rest. c.in_default.ensures.none (codes "-") rest
