use Rattle.std.proofs.Common.{sym, ◌∙◌}
use Rattle.std.proofs.lemmas.Option.{none-some}
use Rattle.arguments.proofs.Groupings.{only_after}
use Rattle.arguments.proofs.grouping.read_after_grouping.Goals as goal

pub returns-in-None-clause-only : goal.returns-in-None-clause-only
returns-in-None-clause-only c = λ by chain asks.
    let same = only_after _ _ _ _ _ _ c.in-Some.ensures.some c.find_keyword.ensures c.in-Some-find_keyword.is c.read_net.ensures.only by chain asks in
    absurd (none-some chain (sym c.in-None.is ∙ same.1))
