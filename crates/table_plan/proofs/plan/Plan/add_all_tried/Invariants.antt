use Rattle.std.proofs.Common.{◌≡◌, ◌+◌, ◌*◌, ◌≤◌, length}
use Rattle.table_machine.specs.Restoring.{with_all_tried}
use Rattle.table_plan.specs.Planned.{IsPlan, state_of}
use Rattle.table_plan.proofs.plan.Plan.add_all_tried.Given as goal

-- what the rest gives from here is what all give from the start
abbrev pub invariant-loop-rest : goal.invariant-loop-rest
invariant-loop-rest g l = record {
  plan : IsPlan l.self.placer l.self.recs.items l.self.news l.self.grid;
  state : with_all_tried (state_of l.self.placer l.self.recs.items) l.rest ≡ with_all_tried (state_of l.initial.self.placer l.initial.self.recs.items) l.recs;
  placer : l.self.placer ≡ l.initial.self.placer;
  news : l.self.news ≡ l.initial.self.news;
  steps : l.steps + 2 * length l.rest ≤ l.fn.steps + 2 * length l.recs;
}

abbrev pub decreases-loop-rest : goal.decreases-loop-rest
decreases-loop-rest g l = length l.rest
