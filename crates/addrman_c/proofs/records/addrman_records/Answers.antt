use Rattle.std.proofs.Common.{refl, subst}
use Rattle.addrman_c.specs.Calls.{RecordsCall}
use Rattle.c_handles.specs.declared.handle.Kept.{Kept}
use Rattle.addrman_c.proofs.OnHandles.{done}
use Rattle.addrman_c.proofs.records.addrman_records.Goals as goal

pub returns-clause-call : goal.returns-clause-call
returns-clause-call c =
    let kept = c.in-Some.kept.value in
    let new = c.records_on-code.new in
    done _ _ _ kept kept _ c.in-Some.ensures.taken c.put.ensures refl
    (subst (λ (k : Kept). RecordsCall k.tables.records c.records_on-code.result c.args.out.now new.out new.length) c.deref.ensures c.records_on-code.ensures.call, refl)
