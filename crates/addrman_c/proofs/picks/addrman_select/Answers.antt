use Rattle.std.proofs.Common.{List, ℕ, refl, subst}
use Rattle.table_machine.specs.Picks.{select}
use Rattle.addrman_c.specs.Calls.{PickCall}
use Rattle.c_handles.specs.declared.handle.Kept.{Kept}
use Rattle.addrman_c.proofs.OnHandles.{done}
use Rattle.addrman_c.proofs.picks.addrman_select.Goals as goal

pub returns-clause-call : goal.returns-clause-call
returns-clause-call c =
    let a = c.args in
    let kept = c.in-Some.kept.value in
    let code = c.select_on-code in
    done _ _ _ kept kept _ c.in-Some.ensures.taken c.put.ensures refl (
      subst (λ (nets : List ℕ). PickCall (select kept.tables a.new_only nets a.words.now a.now) code.result code.new.picked) c.read_nets.ensures
          (subst (λ (k : Kept). PickCall (select k.tables a.new_only c.read_nets.result a.words.now a.now) code.result code.new.picked) c.deref.ensures code.ensures.call),
      refl,
    )
