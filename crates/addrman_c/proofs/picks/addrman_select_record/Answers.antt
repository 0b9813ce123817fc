use Rattle.std.proofs.Common.{List, ℕ, refl, subst}
use Rattle.table_machine.specs.Picks.{select}
use Rattle.addrman_c.specs.Calls.{PickRecordCall}
use Rattle.c_handles.specs.declared.handle.Kept.{Kept}
use Rattle.addrman_c.proofs.OnHandles.{done}
use Rattle.addrman_c.proofs.picks.addrman_select_record.Goals as goal

pub returns-clause-call : goal.returns-clause-call
returns-clause-call c =
    let a = c.args in
    let kept = c.in-Some.kept.value in
    let code = c.select_record_on-code in
    done _ _ _ kept kept _ c.in-Some.ensures.taken c.put.ensures refl (
      subst (λ (nets : List ℕ). PickRecordCall (select kept.tables a.new_only nets a.words.now a.now) kept.tables code.result code.new.out) c.read_nets.ensures
          (subst (λ (k : Kept). PickRecordCall (select k.tables a.new_only c.read_nets.result a.words.now a.now) k.tables code.result code.new.out) c.deref.ensures code.ensures.call),
      refl,
    )
