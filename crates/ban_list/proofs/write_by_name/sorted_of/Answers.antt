use Rattle.std.proofs.Common.{◌≡◌, rules, ap}
use Rattle.std.specs.Ordering.{is_lt}
use Rattle.std.proofs.lemmas.List.Sorted.{answers_always}
use Rattle.ban_list.specs.NewFile.{comes_before, subnet_cmp}
use Rattle.ban_list.proofs.NewLaws.{weak}
use Rattle.ban_list.proofs.write_by_name.sorted_of.Goals as goal

pub returns-clause-order : goal.returns-clause-order
returns-clause-order c =
    c.sort_unstable_by.ensures.sorted comes_before weak
    (answers_always _ _ _ (λ f a r f' called. let is : r ≡ subnet_cmp a.0.now.subnet a.1.0.now.subnet = search rules in ap is_lt is))
