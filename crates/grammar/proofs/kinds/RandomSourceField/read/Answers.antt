use Rattle.std.proofs.Common.{inl, inr, ◌∙◌, sym}
use Rattle.grammar.proofs.kinds.RandomSourceField.read.Goals as goal

pub returns-clause-fault : goal.returns-clause-fault
returns-clause-fault c = λ f is not_memory. (
  λ form. elim (c.read_source.ensures.only form.1.0 form.1.2) [ inl ok ↦ cc (sym ok ∙ is) | inr err ↦ not_memory (cc (sym err ∙ is)) ],
  elim (c.read_source.ensures.fault f is) [ inl words ↦ words | inr memory ↦ absurd (not_memory memory) ],
)
