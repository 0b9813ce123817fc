use Rattle.std.proofs.Common.{List, ◌++◌, ℕ, get_or, ap, ◌∙◌}
use Rattle.map_diff.specs.Text.{change_text}
use Rattle.map_diff.proofs.Texts.{on_err, kept, blank, one_more}
use Rattle.map_diff.proofs.text.put_changes.Goals as goal

pub returns-in_err-put_change-clause-err : goal.returns-in_err-put_change-clause-err
returns-in_err-put_change-clause-err c =
    on_err c.from_residual.result _ (kept c.args.out.now.items c.loop-row.out.items c.put_change.new.out.items _ c.loop-row.invariant c.in_err-put_change.ensures.err)

pub loop-row-preserved : goal.loop-row-preserved
loop-row-preserved c =
    c.in_ok-put_change.ensures.ok ∙ ap (λ (xs : List ℕ). xs ++ change_text (get_or c.args.rows.now c.loop-row.row-index blank)) c.loop-row.invariant
    ∙ one_more c.args.out.now.items c.args.rows.now c.loop-row.row-index c.loop-row-test.true
