use Rattle.risk_parts.proofs.BoundsOf.{by_new, by_picks, by_tried}
use Rattle.risk_parts.proofs.law.parts_are_bounds.Goals as goal

pub returns-clause-picks : goal.returns-clause-picks
returns-clause-picks c = λ st now n theirs sound. by_picks st now theirs sound n

pub returns-clause-new : goal.returns-clause-new
returns-clause-new c = λ st now n theirs sound. by_new st now theirs sound n

pub returns-clause-tried : goal.returns-clause-tried
returns-clause-tried c = λ st now n theirs sound. by_tried st now theirs sound n
