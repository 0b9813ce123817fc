use Rattle.getaddr.proofs.Alike.{same_answers}
use Rattle.getaddr.proofs.Told.{one_time}
use Rattle.getaddr.proofs.law.times_are_hidden.Goals as goal

pub returns-clause-time : goal.returns-clause-time
returns-clause-time c = one_time

pub returns-clause-alike : goal.returns-clause-alike
returns-clause-alike c = same_answers
