use Rattle.std.proofs.Common.{◌≡◌, ◌++◌, take, drop}
use Rattle.std.specs.Prelude.{map}
use Rattle.table_plan.specs.Waiters.{forget}
use Rattle.table_plan.proofs.waiter.forget.Given as goal

abbrev pub invariant-loop-waiter : goal.invariant-loop-waiter
invariant-loop-waiter l = l.waiters ≡ map (forget l.gone) (take l.waiter-index l.fn.waiters) ++ drop l.waiter-index l.fn.waiters
