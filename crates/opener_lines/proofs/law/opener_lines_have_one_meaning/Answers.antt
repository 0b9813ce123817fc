use Rattle.std.proofs.Common.{◌≡◌}
use Rattle.grammar.proofs.ReadingLemmas.{passed_says_none}
use Rattle.grammar.proofs.TableLemmas.{of_same}
use Rattle.grammar.specs.Words.{fields_of}
use Rattle.opener_lines.specs.Grammar.{AsksAfter, FaultAfter}
use Rattle.opener_lines.specs.Laws.{letters, one_asked, one_fault}
use Rattle.opener_lines.proofs.OneMeaning.{asked_no_fault}
use Rattle.opener_lines.proofs.law.opener_lines_have_one_meaning.Goals as goal

pub returns-clause-request : goal.returns-clause-request
returns-clause-request c = λ line a b. of_same {C = λ a b. a ≡ b} AsksAfter AsksAfter one_asked (fields_of line) a b

pub returns-clause-fault : goal.returns-clause-fault
returns-clause-fault c = λ line f g h k. of_same {C = λ f g. f ≡ g} FaultAfter FaultAfter one_fault (fields_of line) f g h.1 k.1

pub returns-clause-right : goal.returns-clause-right
returns-clause-right c = asked_no_fault

pub returns-clause-passed : goal.returns-clause-passed
returns-clause-passed c = passed_says_none AsksAfter letters
