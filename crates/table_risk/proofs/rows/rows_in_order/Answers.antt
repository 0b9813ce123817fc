use Rattle.std.proofs.Common.{◌≡◌, rules, ap}
use Rattle.std.specs.Ordering.{is_lt}
use Rattle.std.proofs.lemmas.List.Sorted.{answers_always}
use Rattle.table_risk.specs.Rows.{comes_before, rank_cmp}
use Rattle.table_risk.proofs.Ranked.{weak}
use Rattle.table_risk.proofs.rows.rows_in_order.Goals as goal

pub returns-clause-order : goal.returns-clause-order
returns-clause-order g c =
    c.sort_unstable_by.ensures.sorted comes_before weak
    (answers_always _ _ _ (λ f a r f' called. let is : r ≡ rank_cmp a.0.now a.1.0.now = search rules in ap is_lt is))
