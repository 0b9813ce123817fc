use Rattle.std.proofs.Common.{rules}
use Rattle.arguments.proofs.WithRaw.{no_filed_colours, no_listed_colours}
use Rattle.arguments.proofs.tables_from.read_picture.Goals as goal

pub returns-in-None-clause-none : goal.returns-in-None-clause-none
returns-in-None-clause-none c = no_listed_colours _ _ c.read_colours.result c.in-Some.ensures.found (search rules) c.read_colours.ensures.only

pub returns-in-None-read_colours_kind-clause-none : goal.returns-in-None-read_colours_kind-clause-none
returns-in-None-read_colours_kind-clause-none c = no_filed_colours _ c.in_default.ensures.none c.in-None-read_colours_kind.ensures.none
