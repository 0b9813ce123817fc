use Rattle.std.proofs.Common.{◌≡◌, ◌+◌, ◌≤◌, Result, Ok, Err, sym, ap, subst, arith}
use Rattle.std.specs.Prelude.{OnOk, OnErr}
use Rattle.table_machine.specs.State.{State}
use Rattle.table_machine.specs.Entries.{add}
use Rattle.table_machine.proofs.Rest.{add-rest}
use Rattle.node_calls.proofs.adding.take_entry.Goals as goal

-- the next number rises by at most one, whether the entry is added or memory runs out
next_by : {T E : Type 0} (result : Result T E) (old new added : State) → added.next_number ≤ old.next_number + 1
    → OnOk result (new ≡ added) → OnErr result (new ≡ old) → new.next_number ≤ old.next_number + 1
next_by (Ok answer) old new added most ok err = subst (λ (st : State). st.next_number ≤ old.next_number + 1) (sym ok) most
next_by (Err fault) old new added most ok err = omega (arith, ap (λ (st : State). st.next_number) err)

pub returns-in-Some-clause-numbers : goal.returns-in-Some-clause-numbers
returns-in-Some-clause-numbers g c =
    let a = c.args in
    let entry = c.clamp_time-entry.result in
    next_by c.add.result a.tables.now c.add.new.tables (add a.tables.now a.now entry a.source.now 7200 a.word).state
    (add-rest a.tables.now a.now entry a.source.now 7200 a.word).most c.add.ensures.state c.add.ensures.err
