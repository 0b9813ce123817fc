-- Rows are compared by their picks.
use Rattle.std.specs.Cmp.{IsStrictWeakOrder, IsTotalOrder}
use Rattle.std.proofs.lemmas.Cmp.{back_total, nat_cmp_total, nat_list_cmp_total, on_total, then_total}
use Rattle.std.proofs.lemmas.List.Sorted.{ranks_by}
use Rattle.table_risk.specs.Rows.{comes_before, rank_cmp}
use Rattle.table_risk.specs.declared.rows.Row.{Row}

total : IsTotalOrder rank_cmp
total = then_total (back_total (on_total (λ (c : Row). c.picks) nat_cmp_total)) (on_total (λ (c : Row). c.group.items) nat_list_cmp_total)

pub weak : IsStrictWeakOrder comes_before
weak = ranks_by total (λ (c : Row). c)
