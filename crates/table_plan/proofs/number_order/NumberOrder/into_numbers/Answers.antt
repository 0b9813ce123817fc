use Rattle.table_plan.proofs.Positions.{distinct}
use Rattle.table_plan.proofs.number_order.NumberOrder.into_numbers.Goals as goal

pub returns-clause-distinct : goal.returns-clause-distinct
returns-clause-distinct c = distinct c.self.inside.numbers.items c.self.inside.positions.items c.self.invariant
