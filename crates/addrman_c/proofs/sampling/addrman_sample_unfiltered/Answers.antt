use Rattle.std.proofs.Common.{ℕ, List, refl, subst}
use Rattle.addrman_c.specs.Sampling.{UnfilteredCall}
use Rattle.c_handles.specs.declared.handle.Kept.{Kept}
use Rattle.addrman_c.proofs.OnHandles.{done}
use Rattle.addrman_c.proofs.sampling.addrman_sample_unfiltered.Goals as goal

pub returns-clause-call : goal.returns-clause-call
returns-clause-call c =
    let a = c.args in
    let kept = c.in-Some.kept.value in
    let code = c.unfiltered_on-code in
    let new = code.new in
    let found =
    subst (λ (k : Kept). UnfilteredCall a.max a.percent c.read_nets-classes.result a.words.now k.tables code.result a.out.now new.out new.length)
    c.deref.ensures code.ensures.call in
    done _ _ _ kept kept _ c.in-Some.ensures.taken c.put.ensures refl (
      subst (λ (nets : List ℕ). UnfilteredCall a.max a.percent nets a.words.now kept.tables code.result a.out.now new.out new.length)
          c.read_nets-classes.ensures found,
      refl,
    )
