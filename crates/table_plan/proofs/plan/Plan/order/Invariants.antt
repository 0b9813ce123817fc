use Rattle.std.proofs.Common.{◌≡◌, ◌<◌, ◌≤◌, ℕ, length, Contains}
use Rattle.std.specs.List.{range_with_len}
use Rattle.table_machine.specs.Restoring.{drop_all}
use Rattle.table_plan.specs.Planned.{dropping, state_of}
use Rattle.table_plan.proofs.plan.Plan.order.Given as goal

abbrev pub invariant-loop-number : goal.invariant-loop-number
invariant-loop-number l = record {
  state : dropping l.self.placer l.self.recs.items l.number l.order ≡ drop_all (state_of l.self.placer l.self.recs.items) (range_with_len 0 l.number);
  there : (other : ℕ) → l.number ≤ other → other < length l.self.recs.items → Contains l.order other;
}
