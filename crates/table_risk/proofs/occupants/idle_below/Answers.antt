use Rattle.std.proofs.Common.{arith, is_some, sym, ◌∙◌}
use Rattle.table_groups.specs.View.{occupant_at}
use Rattle.table_risk.proofs.Slots.{idle_found, idle_more}
use Rattle.table_risk.proofs.occupants.idle_below.Goals as goal

pub returns-then-is_occupied-clause-is : goal.returns-then-is_occupied-clause-is
returns-then-is_occupied-clause-is g c =
    idle_found (λ s. is_some (occupant_at (g.T.TableView.view c.args.tables.now) c.args.in_new c.args.bucket s)) c.args.slot c.loop-at.at c.loop-at.count c.loop-at-test.true
    (sym c.is_occupied.ensures ∙ c.if-is_occupied.true) c.loop-at.invariant.is

pub loop-at-preserved : goal.loop-at-preserved
loop-at-preserved g c = record {
  below = omega (arith, c.loop-at.invariant.below, c.loop-at-test.true);
  is = idle_more (λ s. is_some (occupant_at (g.T.TableView.view c.args.tables.now) c.args.in_new c.args.bucket s)) c.args.slot c.loop-at.at c.loop-at.count c.loop-at-test.true
      (sym c.is_occupied.ensures ∙ c.if-is_occupied.false) c.loop-at.invariant.is;
}
