use Rattle.std.proofs.Common.{◌∙◌, ap}
use Rattle.table_machine.specs.State.{State}
use Rattle.table_machine.proofs.Unchanged.{good-next}
use Rattle.manager.specs.Machine.{Machine}
use Rattle.manager.proofs.manager.Manager.good.Goals as goal

pub returns-clause-numbers : goal.returns-clause-numbers
returns-clause-numbers g c =
    ap (λ (st : State). st.next_number) c.good.ensures.state
    ∙ good-next c.self.inside.tables c.self.inside.clock c.args.peer.now c.args.testing
    ∙ ap (λ (m : Machine). m.tables.next_number) c.self.view_is
