use Rattle.std.proofs.Common.{◌∙◌, ap}
use Rattle.table_machine.specs.State.{State}
use Rattle.table_machine.proofs.Folds.{resolve-next}
use Rattle.manager.specs.Machine.{Machine}
use Rattle.manager.proofs.manager.Manager.resolve.Goals as goal

pub returns-clause-numbers : goal.returns-clause-numbers
returns-clause-numbers g c =
    ap (λ (st : State). st.next_number) c.resolve.ensures.state
    ∙ resolve-next c.self.inside.tables _
    ∙ ap (λ (m : Machine). m.tables.next_number) c.self.view_is
