use Rattle.addrman_run.proofs.Trials.{begins}
use Rattle.addrman_run.proofs.trial.trial_line.Goals as goal

pub line_over-requires-clause-begins : goal.line_over-requires-clause-begins
line_over-requires-clause-begins g c =
    begins c.make-session.result c.open-2.result c.in-Ok.tables c.make.result c.make-session.ensures c.open-2.ensures c.in-Ok.ensures.empty c.make.ensures
