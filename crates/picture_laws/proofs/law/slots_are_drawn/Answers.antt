use Rattle.picture_laws.proofs.DotsOf.{draws-slots}
use Rattle.picture_laws.proofs.law.slots_are_drawn.Goals as goal

pub returns : goal.returns
returns c view = draws-slots view c.one_dot.ensures.dots
