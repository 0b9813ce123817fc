use Rattle.std.proofs.Common.{Err, refl, ap, inl, inr}
use Rattle.grammar.proofs.ReadingLemmas.{memory_or_not}
use Rattle.grammar.proofs.read.read_texts.Goals as goal

pub returns-in-Err-clause-only : goal.returns-in-Err-clause-only
returns-in-Err-clause-only g c = λ said says.
    elim (memory_or_not c.in-Err.fault) [
      | inl is ↦ inr (ap Err is)
      | inr not ↦ absurd (g.met.G.Grammar.right c.args.word.now (g.T.Texts.texts c.args.rest) said c.in-Err.fault says (c.in-Err.ensures.fault c.in-Err.fault refl not))
    ]

pub returns-in-Err-clause-only_fault : goal.returns-in-Err-clause-only_fault
returns-in-Err-clause-only_fault g c = λ f wrong.
    elim (memory_or_not c.in-Err.fault) [
      | inl is ↦ inr (ap Err is)
      | inr not ↦ inl (ap Err (g.met.G.Grammar.one_fault c.args.word.now (g.T.Texts.texts c.args.rest) c.in-Err.fault f (c.in-Err.ensures.fault c.in-Err.fault refl not) wrong))
    ]
