use Rattle.std.proofs.Common.{◌≡◌, ◌+◌, length}
use Rattle.table_machine.specs.Restoring.{with_all_new}
use Rattle.table_plan.specs.Planned.{IsPlan, state_of}
use Rattle.table_plan.proofs.plan.Plan.add_all_new.Given as goal

-- what the rest gives from here is what all give from the start
abbrev pub invariant-loop-rest : goal.invariant-loop-rest
invariant-loop-rest l = record {
  only : l.self.news ≡ length l.self.recs.items;
  plan : IsPlan l.self.placer l.self.recs.items l.self.news l.self.grid;
  state : with_all_new (state_of l.self.placer l.self.recs.items) l.rest ≡ with_all_new (state_of l.initial.self.placer l.initial.self.recs.items) l.recs;
  placer : l.self.placer ≡ l.initial.self.placer;
  count : l.self.news + length l.rest ≡ l.initial.self.news + length l.recs;
}

abbrev pub decreases-loop-rest : goal.decreases-loop-rest
decreases-loop-rest l = length l.rest
