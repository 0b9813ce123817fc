use Rattle.std.proofs.Common.{arith}
use Rattle.prefix_table.specs.declared.rows.Row.{Row}
use Rattle.prefix_table.proofs.OrderLaws.{not_after_last}
use Rattle.prefix_table.proofs.search.last_up_to.Goals as goal

pub returns-clause-last : goal.returns-clause-last
returns-clause-last c =
    let count = c.count_up_to-count in
    let none : Row = record { bits = 0; len = 0; asn = 0 } in
    rw (c.row_before.ensures none)
    (not_after_last c.args.rows.now c.args.bits c.args.len count.result none c.requires count.ensures.count (omega arith) count.ensures.bound)
