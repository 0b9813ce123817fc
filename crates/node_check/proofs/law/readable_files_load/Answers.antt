use Rattle.node_check.proofs.LawsOf.{code_is, loads_if}
use Rattle.node_check.proofs.law.readable_files_load.Goals as goal

pub returns-clause-code : goal.returns-clause-code
returns-clause-code c = code_is

pub returns-clause-loads : goal.returns-clause-loads
returns-clause-loads c = loads_if
