use Rattle.log_lines.proofs.OneMeaning.{one_command, one_fault, spelled_no_fault, passed_spells_none}
use Rattle.log_lines.proofs.law.lines_have_one_meaning.Goals as goal

pub returns-clause-command : goal.returns-clause-command
returns-clause-command c = one_command

pub returns-clause-fault : goal.returns-clause-fault
returns-clause-fault c = one_fault

pub returns-clause-right : goal.returns-clause-right
returns-clause-right c = spelled_no_fault

pub returns-clause-passed : goal.returns-clause-passed
returns-clause-passed c = passed_spells_none
