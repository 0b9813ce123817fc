use Rattle.std.proofs.Common.{rules}
use Rattle.arguments.proofs.BesideAnchors.{no_show}
use Rattle.arguments.proofs.read.read_show.Goals as goal

pub returns-in-None-clause-none : goal.returns-in-None-clause-none
returns-in-None-clause-none c = no_show _ c.read_after_word.result (search rules) c.read_after_word.ensures.only c.in-None.ensures.none
