use Rattle.std.proofs.Common.{◌∙◌, sym}
use Rattle.std.proofs.lemmas.Option.{none-some}
use Rattle.grammar.proofs.kinds.OnePeerField.read.Goals as goal

pub returns-in-None-clause-fault : goal.returns-in-None-clause-fault
returns-in-None-clause-fault c = λ f is _. (λ form. none-some form.1.0 (sym c.in-None.is ∙ c.parse_peer.ensures.only form.1.0 form.1.2), cc is)
