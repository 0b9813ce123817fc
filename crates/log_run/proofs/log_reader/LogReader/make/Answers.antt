use Rattle.log_run.proofs.Readers.{fresh}
use Rattle.log_run.proofs.log_reader.LogReader.make.Goals as goal

pub invariant_of-result : goal.invariant_of-result
invariant_of-result c = fresh c.make.result c.make.ensures
