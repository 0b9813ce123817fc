use Rattle.std.proofs.Common.{rules}
use Rattle.gen_load.specs.Log.{drawn_line}
use Rattle.gen_load.proofs.line.put_line.Goals as goal

pub returns-clause-text : goal.returns-clause-text
unfolding drawn_line
returns-clause-text c = search rules

pub returns-clause-after : goal.returns-clause-after
unfolding drawn_line
returns-clause-after c = search rules
