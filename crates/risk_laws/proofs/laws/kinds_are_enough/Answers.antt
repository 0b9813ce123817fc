use Rattle.risk_laws.proofs.ClassesOf.{by_bound, by_refused, by_taken, by_whole, kinds_new, kinds_tried}
use Rattle.risk_laws.proofs.laws.kinds_are_enough.Goals as goal

pub returns-clause-taken : goal.returns-clause-taken
returns-clause-taken c = by_taken

pub returns-clause-refused : goal.returns-clause-refused
returns-clause-refused c = by_refused

pub returns-clause-whole : goal.returns-clause-whole
returns-clause-whole c = by_whole

pub returns-clause-bound : goal.returns-clause-bound
returns-clause-bound c = by_bound

pub returns-clause-new : goal.returns-clause-new
returns-clause-new c = kinds_new

pub returns-clause-tried : goal.returns-clause-tried
returns-clause-tried c = kinds_tried
