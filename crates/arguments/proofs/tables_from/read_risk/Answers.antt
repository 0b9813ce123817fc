use Rattle.std.proofs.Common.{rules}
use Rattle.arguments.proofs.WithRaw.{no_filed_grouping, no_listed_grouping}
use Rattle.arguments.proofs.tables_from.read_risk.Goals as goal

pub returns-in-None-clause-none : goal.returns-in-None-clause-none
returns-in-None-clause-none c = no_listed_grouping _ _ c.read_after_grouping.result c.in-Some.ensures.found (search rules) c.read_after_grouping.ensures.only

pub returns-in-None-read_grouping_kind-clause-none : goal.returns-in-None-read_grouping_kind-clause-none
returns-in-None-read_grouping_kind-clause-none c = no_filed_grouping _ c.in_default.ensures.none c.in_default-read_sets_kind.ensures.none c.in-None-read_grouping_kind.ensures.none
