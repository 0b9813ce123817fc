use Rattle.std.proofs.Common.{rules}
use Rattle.std.proofs.lemmas.List.Sorted.{IsPartitionPoint-from_clause}
use Rattle.prefix_table.specs.Inside.{is_up_to}
use Rattle.prefix_table.proofs.OrderLaws.{partitioned}
use Rattle.prefix_table.proofs.search.count_up_to.Goals as goal

pub returns-clause-count : goal.returns-clause-count
returns-clause-count c =
    let rows = c.args.rows.now in
    let bits = c.args.bits in
    let len = c.args.len in
    IsPartitionPoint-from_clause (is_up_to bits len) rows c.partition_point.result c.partition_point.ensures.partitioned (partitioned rows bits len c.requires) (λ a r f q. search rules)
