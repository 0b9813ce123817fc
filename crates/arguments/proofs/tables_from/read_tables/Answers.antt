use Rattle.std.proofs.Common.{rules}
use Rattle.arguments.proofs.WithRaw.{no_filed_net, no_listed_net}
use Rattle.arguments.proofs.tables_from.read_tables.Goals as goal

pub returns-in-None-clause-none : goal.returns-in-None-clause-none
returns-in-None-clause-none c = no_listed_net _ _ c.read_net.result c.in-Some.ensures.found (search rules) c.read_net.ensures.only

pub returns-in-None-read_file_kind-clause-none : goal.returns-in-None-read_file_kind-clause-none
returns-in-None-read_file_kind-clause-none c = no_filed_net _ c.in_default.ensures.none c.in-None-read_file_kind.ensures.none
