use Rattle.table_laws.proofs.RoundsOf.{each_kind, idle_is}
use Rattle.table_laws.proofs.searches.rounds_are_of_three_kinds.Goals as goal

pub returns-clause-idle : goal.returns-clause-idle
returns-clause-idle c = idle_is

pub returns-clause-all : goal.returns-clause-all
returns-clause-all c = each_kind
