use Rattle.std.proofs.Common.{sym, ◌∙◌}
use Rattle.grammar.proofs.Values.{one_value}
use Rattle.grammar.proofs.law.fields_have_one_value.Goals as goal

pub returns-clause-value : goal.returns-clause-value
returns-clause-value c = one_value

pub returns-clause-fault : goal.returns-clause-fault
returns-clause-fault c = λ kind text f g h k. h.1 ∙ sym k.1
