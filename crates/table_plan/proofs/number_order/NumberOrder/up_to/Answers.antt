use Rattle.std.proofs.Common.{◌∙◌}
use Rattle.table_plan.proofs.Positions.{are-counted}
use Rattle.table_plan.proofs.number_order.NumberOrder.up_to.Goals as goal

pub invariant_of-result : goal.invariant_of-result
invariant_of-result c = are-counted c.args.count c.in_ok-numbers.numbers.items c.in_ok-positions.positions.items c.in_ok-numbers.ensures (c.in_ok-positions.ensures.items ∙ c.as_slice.ensures.value ∙ c.in_ok-numbers.ensures)
