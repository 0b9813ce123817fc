use Rattle.std.proofs.Common.{sym, ◌∙◌}
use Rattle.std.proofs.lemmas.Option.{none-some}
use Rattle.arguments.proofs.options.listing_of.Goals as goal

pub returns-in-None-clause-only : goal.returns-in-None-clause-only
returns-in-None-clause-only c = λ chain net. absurd (none-some chain (sym c.in-None.is ∙ c.read_net.ensures.only chain net))
