use Rattle.risk_parts.proofs.Untried.{no_tries, same_parts}
use Rattle.risk_parts.proofs.law.parts_last.Goals as goal

pub returns-clause-file : goal.returns-clause-file
returns-clause-file c = λ snap places. no_tries snap places

pub returns-clause-later : goal.returns-clause-later
returns-clause-later c = λ st now later theirs none one two. same_parts st none now later one two theirs
