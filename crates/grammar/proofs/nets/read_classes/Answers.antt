use Rattle.grammar.proofs.NameLemmas.{no_classes}
use Rattle.grammar.proofs.nets.read_classes.Goals as goal

pub returns-in-None-clause-fault : goal.returns-in-None-clause-fault
returns-in-None-clause-fault c = λ f is. (no_classes c.args.text.now (λ all. let yes = c.is_all.ensures.no all in absurd (cc)) c.in-None.ensures.none, cc is)
