use Rattle.std.proofs.Common.{sym, subst}
use Rattle.manager.specs.Step.{Step}
use Rattle.manager.proofs.manager.Manager.apply.Goals as goal

pub returns-in-Select-clause-step : goal.returns-in-Select-clause-step
returns-in-Select-clause-step g c =
    subst (λ asked. Step c.args.self.now asked c.select.result c.args.self.now) (sym c.in-Select.is) c.select.ensures
