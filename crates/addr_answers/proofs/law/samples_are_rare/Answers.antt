use Rattle.addr_answers.proofs.Rare.{are_apart, are_few}
use Rattle.addr_answers.proofs.law.samples_are_rare.Goals as goal

pub returns-clause-apart : goal.returns-clause-apart
returns-clause-apart c = are_apart

pub returns-clause-count : goal.returns-clause-count
returns-clause-count c = are_few
