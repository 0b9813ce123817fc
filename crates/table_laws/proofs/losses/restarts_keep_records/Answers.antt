use Rattle.table_laws.proofs.Restarted.{keeps_over_restart}
use Rattle.table_laws.proofs.losses.restarts_keep_records.Goals as goal

pub returns : goal.returns
returns c = keeps_over_restart
