use Rattle.std.proofs.Common.{arith, ap, ◌∙◌}
use Rattle.std.specs.Prelude.{Option, is_some}
use Rattle.peer_rec.specs.declared.rec.Rec.{Rec}
use Rattle.table_groups.proofs.Buckets.{sum-all, sum-more}
use Rattle.table_groups.proofs.Visits.{one_if}
use Rattle.table_groups.proofs.group_slots.slots_in.Goals as goal

pub loop-slot-preserved : goal.loop-slot-preserved
loop-slot-preserved g c = record {
  count = sum-more (λ slot. one_if (is_some ((g.T.TableView.view c.args.tables.now).new c.args.bucket slot))) c.loop-slot.slot c.loop-slot.count c.one_if-count.result c.loop-slot.invariant.count
      (c.one_if-count.ensures.is ∙ ap (λ (o : Option Rec). one_if (is_some o)) c.occupant.ensures);
  few = omega (arith, c.loop-slot.invariant.few, c.one_if-count.ensures.few);
}

pub returns-clause-count : goal.returns-clause-count
returns-clause-count g c =
    sum-all (λ slot. one_if (is_some ((g.T.TableView.view c.args.tables.now).new c.args.bucket slot))) c.loop-slot.slot 64 c.loop-slot.count (omega arith) c.loop-slot.invariant.count
