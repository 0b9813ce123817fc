use Rattle.addrman_run.proofs.OpeningLaws.{counted_last}
use Rattle.addrman_run.proofs.law.changes_are_counted_last.Goals as goal

pub returns : goal.returns
returns c = λ peers past fault fits many refused. counted_last peers past fault fits c.files_have_one_meaning.ensures many refused
