use Rattle.std.proofs.Common.{All, ◌≡◌, ◌+◌, ◌*◌, ◌<◌, ◌≤◌, length, true}
use Rattle.table_machine.specs.Restoring.{place_all}
use Rattle.table_plan.specs.Planned.{IsPlan, state_of}
use Rattle.table_plan.proofs.plan.Plan.place_all.Given as goal

-- what the rest gives from here is what all give from the start
abbrev pub invariant-loop-rest : goal.invariant-loop-rest
invariant-loop-rest g l = record {
  plan : IsPlan l.self.placer l.self.recs.items l.self.news l.self.grid;
  state : place_all l.are_used (state_of l.self.placer l.self.recs.items) l.rest ≡ place_all l.are_used (state_of l.initial.self.placer l.initial.self.recs.items) l.listed;
  buckets : l.are_used ≡ true → All (λ pair. pair.0 < 1024) l.rest;
  indexes : All (λ pair. pair.1 < l.self.news) l.rest;
  placer : l.self.placer ≡ l.initial.self.placer;
  news : l.self.news ≡ l.initial.self.news;
  steps : l.steps + 4 * length l.rest ≤ l.fn.steps + 4 * length l.listed;
}

abbrev pub decreases-loop-rest : goal.decreases-loop-rest
decreases-loop-rest g l = length l.rest
