use Rattle.std.proofs.Common.{rules, sym, ◌∙◌}
use Rattle.std.proofs.lemmas.Option.{none-some}
use Rattle.risk_parts.proofs.Sums.{no_set}
use Rattle.risk_parts.proofs.addr_set.parse_set.Goals as goal

pub returns-in-None-parse_subnet-clause-none : goal.returns-in-None-parse_subnet-clause-none
returns-in-None-parse_subnet-clause-none c =
    no_set c.args.text.now (search rules) (λ s is. none-some s (sym c.in-None-parse_subnet.is ∙ c.parse_subnet.ensures.only s is))
