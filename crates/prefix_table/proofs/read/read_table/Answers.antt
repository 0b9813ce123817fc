use Rattle.std.proofs.Common.{[], ◌∷◌, ◌++◌, inr}
use Rattle.host_io.specs.Lines.{lines_of}
use Rattle.prefix_table.specs.Text.{IsTableText}
use Rattle.prefix_table.proofs.OneReading.{table_one, fault_one, table_or_fault}
use Rattle.prefix_table.proofs.PlainLaws.{if_some}
use Rattle.prefix_table.proofs.Settled.{all_settled}
use Rattle.prefix_table.proofs.read.read_table.Goals as goal

pub returns-in-Some-clause-only : goal.returns-in-Some-clause-only
returns-in-Some-clause-only c = λ rows t.
    let table = if_some (IsTableText c.args.text.now) c.in_ok-table.field-0 c.in-Some.table c.in-Some.is c.in_ok-table.ensures.found in
    table_one c.args.text.now c.in-Some.table rows (all_settled (lines_of c.args.text.now)) table t

pub returns-in-Some-clause-exact : goal.returns-in-Some-clause-exact
returns-in-Some-clause-exact c = λ first f.
    let table = if_some (IsTableText c.args.text.now) c.in_ok-table.field-0 c.in-Some.table c.in-Some.is c.in_ok-table.ensures.found in
    table_or_fault c.args.text.now c.in-Some.table first table f (all_settled (f.before ++ f.line ∷ []))

pub returns-in_ok-first_fault-in-None-clause-only : goal.returns-in_ok-first_fault-in-None-clause-only
returns-in_ok-first_fault-in-None-clause-only c = λ rows t.
    let own = c.in_ok-first_fault-in-None.ensures in
    absurd (table_or_fault c.args.text.now rows c.in_ok-first_fault-in-None.field-0 t own (all_settled (own.before ++ own.line ∷ [])))

pub returns-in_ok-first_fault-in-None-clause-exact : goal.returns-in_ok-first_fault-in-None-clause-exact
returns-in_ok-first_fault-in-None-clause-exact c = λ first f.
    let own = c.in_ok-first_fault-in-None.ensures in
    inr (fault_one c.args.text.now c.in_ok-first_fault-in-None.field-0 first own f (all_settled (own.before ++ own.line ∷ [])))
