use Rattle.std.proofs.Common.{ap, ◌∙◌, inl, Ok}
use Rattle.grammar.proofs.WordLemmas.{one_words}
use Rattle.grammar.proofs.random.read_words.Goals as goal

pub returns-in-Ok-into_words-clause-only : goal.returns-in-Ok-into_words-clause-only
returns-in-Ok-into_words-clause-only c = λ words is.
    inl (ap Ok (c.in-Ok-into_words.ensures ∙ one_words c.args.text.now c.in-Ok.source words c.in-Ok.ensures.found is))
