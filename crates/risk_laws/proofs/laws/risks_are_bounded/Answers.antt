use Rattle.risk_laws.proofs.RisksOf.{either_bounded, new_bounded, tried_bounded}
use Rattle.risk_laws.proofs.laws.risks_are_bounded.Goals as goal

pub returns-clause-either : goal.returns-clause-either
returns-clause-either c = either_bounded

pub returns-clause-new : goal.returns-clause-new
returns-clause-new c = new_bounded

pub returns-clause-tried : goal.returns-clause-tried
returns-clause-tried c = tried_bounded
