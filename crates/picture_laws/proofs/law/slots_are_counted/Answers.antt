use Rattle.picture_laws.proofs.Rows.{counts-slots}
use Rattle.picture_laws.proofs.law.slots_are_counted.Goals as goal

pub returns : goal.returns
returns c view = counts-slots view
