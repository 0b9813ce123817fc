use Rattle.session.proofs.OneHistory.{longer_run, one_run, one_step}
use Rattle.session.proofs.law.text_fixes_the_history.Goals as goal

pub returns-clause-step : goal.returns-clause-step
returns-clause-step c = one_step

pub returns-clause-run : goal.returns-clause-run
returns-clause-run c = one_run

pub returns-clause-longer : goal.returns-clause-longer
returns-clause-longer c = longer_run
