use Rattle.std.proofs.Common.{◌≡◌, None, sym, ◌∙◌, rules}
use Rattle.std.proofs.lemmas.Option.{none-some}
use Rattle.arguments.proofs.bans.period_of.Goals as goal

pub returns-in_default-clause-only : goal.returns-in_default-clause-only
returns-in_default-clause-only c = λ s n u text first second less few same.
    let none : c.parse_subnet_by.result ≡ None = search rules in
    none-some s (sym none ∙ c.parse_subnet_by.ensures.only s text)
