use Rattle.std.proofs.Common.{◌≡◌, rules, ap}
use Rattle.std.specs.Ordering.{is_lt}
use Rattle.std.proofs.lemmas.List.Sorted.{answers_always}
use Rattle.table_groups.specs.Order.{comes_before, rank_cmp}
use Rattle.table_groups.proofs.Sorted.{sorted-is, weak}
use Rattle.table_groups.proofs.ranked_groups.put_in_order.Goals as goal

pub returns : goal.returns
returns c =
    sorted-is c.args.groups.now.items c.sort_unstable_by.new.self.items c.sort_unstable_by.ensures.permutation
    (c.sort_unstable_by.ensures.sorted comes_before weak
    (answers_always _ _ _ (λ f a r f' called. let is : r ≡ rank_cmp a.0.now a.1.0.now = search rules in ap is_lt is)))
