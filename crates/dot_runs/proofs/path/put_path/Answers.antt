use Rattle.std.proofs.Common.{ℕ, List, ◌++◌, ap, ◌∙◌}
use Rattle.dot_runs.specs.Runs.{row_text}
use Rattle.dot_runs.specs.Tables.{row_x, row_y, table_row}
use Rattle.dot_runs.proofs.Rows.{one_more}
use Rattle.dot_runs.proofs.path.put_path.Goals as goal

pub loop-row-preserved : goal.loop-row-preserved
loop-row-preserved c =
    one_more (table_row c.args.mark c.args.side c.args.marks.now) c.args.out.now.items c.loop-row.row c.loop-row.out.items c.put_row.new.out.items c.loop-row.invariant (
    c.in_ok-put_row.ensures
    ∙ ap (λ (x : ℕ). c.loop-row.out.items ++ row_text c.args.mark x c.top_of.result c.row_of.result.now) c.left_of.ensures.is
    ∙ ap (λ (y : ℕ). c.loop-row.out.items ++ row_text c.args.mark (row_x c.args.side c.loop-row.row) y c.row_of.result.now) c.top_of.ensures
    ∙ ap (λ (ms : List ℕ). c.loop-row.out.items ++ row_text c.args.mark (row_x c.args.side c.loop-row.row) (row_y c.args.side c.loop-row.row) ms) c.row_of.ensures.is)
