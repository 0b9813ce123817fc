use Rattle.std.proofs.Common.{◌≡◌, ◌∙◌, ap, Result, Ok, Err}
use Rattle.std.specs.Prelude.{OnOk, OnErr}
use Rattle.table_machine.specs.State.{State}
use Rattle.table_machine.proofs.Folds.{sample-next}
use Rattle.manager.specs.Machine.{Machine}
use Rattle.manager.proofs.manager.Manager.sample.Goals as goal

-- the next number is as before, whether the peers are given or not
next_by : {T E : Type 0} (result : Result T E) (old new sampled : State) → sampled.next_number ≡ old.next_number
    → OnOk result (new ≡ sampled) → OnErr result (new ≡ old) → new.next_number ≡ old.next_number
next_by (Ok peers) old new sampled next ok err = ap (λ (st : State). st.next_number) ok ∙ next
next_by (Err fault) old new sampled next ok err = ap (λ (st : State). st.next_number) err

pub returns-clause-numbers : goal.returns-clause-numbers
returns-clause-numbers g c =
    let st = c.self.inside.tables in
    let a = c.args in
    next_by c.sample.result st c.sample.new.tables _ (sample-next st a.max a.pct a.classes c.items.result.now c.self.inside.clock)
    c.sample.ensures.state c.sample.ensures.err
    ∙ ap (λ (m : Machine). m.tables.next_number) c.self.view_is
