use Rattle.std.proofs.Common.{◌≡◌, ◌+◌, is_some}
use Rattle.table_groups.specs.View.{occupant_at}
use Rattle.table_laws.specs.Rounds.{idle_below}
use Rattle.table_risk.proofs.occupants.idle_below.Given as goal

abbrev pub invariant-loop-at : goal.invariant-loop-at
invariant-loop-at g l = record {
  below : l.count + l.at ≡ l.slot;
  is : l.count + idle_below (λ s. is_some (occupant_at (g.T.TableView.view l.tables) l.in_new l.bucket s)) l.at
      ≡ idle_below (λ s. is_some (occupant_at (g.T.TableView.view l.tables) l.in_new l.bucket s)) l.slot;
}

abbrev pub decreases-loop-at : goal.decreases-loop-at
decreases-loop-at g l = l.at
