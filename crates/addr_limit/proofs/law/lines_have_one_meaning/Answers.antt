use Rattle.std.proofs.Common.{◌≡◌}
use Rattle.grammar.proofs.TableLemmas.{of_same}
use Rattle.grammar.specs.Words.{fields_of}
use Rattle.addr_limit.specs.Laws.{no_fault, one_event, one_fault}
use Rattle.addr_limit.specs.Lines.{FaultAfter, SaysAfter}
use Rattle.addr_limit.proofs.law.lines_have_one_meaning.Goals as goal

pub returns-clause-event : goal.returns-clause-event
returns-clause-event c = λ line a b. of_same {C = λ a b. a ≡ b} SaysAfter SaysAfter one_event (fields_of line) a b

pub returns-clause-fault : goal.returns-clause-fault
returns-clause-fault c = λ line f g. of_same {C = λ f g. f ≡ g} FaultAfter FaultAfter one_fault (fields_of line) f g

pub returns-clause-right : goal.returns-clause-right
returns-clause-right c = λ line a f. of_same {C = λ a f. ⊥} SaysAfter FaultAfter no_fault (fields_of line) a f
