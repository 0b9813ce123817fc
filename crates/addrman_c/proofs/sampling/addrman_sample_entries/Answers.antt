use Rattle.std.proofs.Common.{◌∙◌, ℕ, List, Some, refl, ap, subst}
use Rattle.addrman_c.specs.Sampling.{SampleEntriesCall}
use Rattle.addrman_c.proofs.OnHandles.{done}
use Rattle.addrman_c.proofs.sampling.addrman_sample_entries.Goals as goal

pub returns-clause-call : goal.returns-clause-call
returns-clause-call c =
    let a = c.args in
    let kept = c.deref_mut.result.now in
    let new = c.sample_entries_on-code.new in
    done _ _ _ kept (record kept { tables = new.tables }) _ (ap Some c.deref_mut.ensures.value ∙ c.in-Some.ensures.taken) c.put.ensures refl
    (subst (λ (nets : List ℕ). SampleEntriesCall a.max a.percent nets a.words.now a.now kept.tables c.sample_entries_on-code.result a.out.now new.out new.length new.tables)
    c.read_nets.ensures c.sample_entries_on-code.ensures.call)
