use Rattle.table_laws.proofs.There.{entry_there, success_there}
use Rattle.table_laws.proofs.losses.losses_have_causes.Goals as goal

pub returns-clause-entry : goal.returns-clause-entry
returns-clause-entry c = λ st now entry source penalty word sound. entry_there st sound now entry source penalty word

pub returns-clause-success : goal.returns-clause-success
returns-clause-success c = λ st now peer testing sound. success_there st sound now peer testing
