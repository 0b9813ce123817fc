use Rattle.std.proofs.Common.{◌≡◌, Err, ap, inl, inr}
use Rattle.grammar.proofs.TableLemmas.{of_same}
use Rattle.grammar.specs.Words.{fields_of}
use Rattle.grammar.specs.declared.fault.LineFault.{LineFault}
use Rattle.grammar.specs.declared.fault.LineFault.TheVariants.{Memory}
use Rattle.addr_limit.specs.Laws.{no_fault}
use Rattle.addr_limit.specs.Lines.{FaultAfter, SaysAfter}
use Rattle.addr_limit.proofs.limit_log.LimitLog.step.Goals as goal

pub returns-in-Err-clause-only_fault : goal.returns-in-Err-clause-only_fault
returns-in-Err-clause-only_fault g c = λ f h.
    elim (c.in-Err.ensures.only_fault f h) [
      | inl is ↦ let same : c.in-Err.fault ≡ f = cc is in inl (ap (λ (x : LineFault). Err x) same)
      | inr is ↦ let same : c.in-Err.fault ≡ Memory = cc is in inr (ap (λ (x : LineFault). Err x) same)
    ]

pub returns-in-Ok-carry_out_event-clause-only_fault : goal.returns-in-Ok-carry_out_event-clause-only_fault
returns-in-Ok-carry_out_event-clause-only_fault g c = λ f h.
    absurd (of_same {C = λ a b. ⊥} SaysAfter FaultAfter no_fault (fields_of c.args.line.now) c.in-Ok.event f c.in-Ok.ensures.found h)
