use Rattle.std.proofs.Common.{[], ◌∷◌, ◌++◌}
use Rattle.host_io.specs.Lines.{lines_of}
use Rattle.prefix_table.proofs.OneReading.{table_one, fault_one, table_or_fault}
use Rattle.prefix_table.proofs.Settled.{all_settled}
use Rattle.prefix_table.proofs.law.texts_have_one_meaning.Goals as goal

pub returns-clause-one_table : goal.returns-clause-one_table
returns-clause-one_table c = λ text a b is it. table_one text a b (all_settled (lines_of text)) is it

pub returns-clause-one_fault : goal.returns-clause-one_fault
returns-clause-one_fault c = λ text a b is it. fault_one text a b is it (all_settled (is.before ++ is.line ∷ []))

pub returns-clause-never_both : goal.returns-clause-never_both
returns-clause-never_both c = λ text rows fault is it. table_or_fault text rows fault is it (all_settled (it.before ++ it.line ∷ []))
