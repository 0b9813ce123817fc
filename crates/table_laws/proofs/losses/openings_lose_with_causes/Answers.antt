use Rattle.table_laws.proofs.OpeningOf.{keeps_at_opening}
use Rattle.table_laws.proofs.ReopeningOf.{keeps_over_opening}
use Rattle.table_laws.proofs.losses.openings_lose_with_causes.Goals as goal

pub returns-clause-file : goal.returns-clause-file
returns-clause-file c = keeps_at_opening

pub returns-clause-tables : goal.returns-clause-tables
returns-clause-tables c = λ st places sound are_places. keeps_over_opening st sound places are_places
