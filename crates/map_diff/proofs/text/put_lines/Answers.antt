use Rattle.std.proofs.Common.{ℕ, List, ◌++◌, ap, ◌∙◌, append_assoc}
use Rattle.std.specs.Prelude.{flat_map}
use Rattle.map_diff.specs.Text.{change_text, counts_text, difference_text}
use Rattle.map_diff.proofs.Results.{on_ok}
use Rattle.map_diff.proofs.text.put_lines.Goals as goal

pub returns-clause-ok : goal.returns-clause-ok
unfolding difference_text
returns-clause-ok c =
    on_ok c.put_counts.result _ _ (λ put.
    put ∙ ap (λ (xs : List ℕ). xs ++ counts_text c.args.rows.now) c.in_ok-put_changes.ensures.ok
    ∙ append_assoc c.args.out.now.items (flat_map change_text c.args.rows.now) (counts_text c.args.rows.now)) c.put_counts.ensures.ok
