use Rattle.std.proofs.Common.{List, ◌++◌, All, Result, Ok, Err, ap, ◌∙◌, subst}
use Rattle.std.specs.Prelude.{OnOk, flat_map}
use Rattle.prefix_table.specs.Text.{IsRowAddress}
use Rattle.prefix_table.specs.Print.{entry_of, address_text, row_text, table_text}
use Rattle.prefix_table.specs.declared.rows.Row.{Row}
use Rattle.prefix_table.proofs.PrintLaws.{printed_is_read}
use Rattle.prefix_table.proofs.TextSizes.{length-table}
use Rattle.prefix_table.proofs.print.put_table.Goals as goal

on_ok_then : {X E : Type 0} (r : Result X E) (P Q : Type 0) → (P → Q) → OnOk r P → OnOk r Q
on_ok_then (Ok x) P Q f p = f p
on_ok_then (Err e) P Q f p = tt

pub returns-else-is_err-clause-ok : goal.returns-else-is_err-clause-ok
unfolding table_text
returns-else-is_err-clause-ok c =
    on_ok_then c.put_rows-put.result _ _ (λ e. e ∙ ap (λ (rows : List Row). c.args.out.now.items ++ flat_map row_text rows) c.rows.ensures.value) c.put_rows-put.ensures.ok

pub returns-else-is_err-clause-reads_back : goal.returns-else-is_err-clause-reads_back
returns-else-is_err-clause-reads_back c =
    on_ok_then c.put_rows-put.result _ _ (λ back. printed_is_read c.args.table.now c.rows.ensures.table (subst (All (λ (row : Row). IsRowAddress (entry_of row).family (address_text (entry_of row)) (entry_of row).address)) c.rows.ensures.value back)) c.put_rows-put.ensures.reads_back

pub returns-else-is_err-clause-short : goal.returns-else-is_err-clause-short
returns-else-is_err-clause-short c = length-table c.args.table.now c.rows.ensures.table

pub returns-then-is_err-clause-short : goal.returns-then-is_err-clause-short
returns-then-is_err-clause-short c = length-table c.args.table.now c.rows.ensures.table
