use Rattle.std.proofs.Common.{◌≡◌, ◌++◌, ◌∙◌, ap, arith}
use Rattle.std.specs.List.{flat_map, range_with_len}
use Rattle.table_risk.specs.Occupants.{bucket_occupants, slot_occupant}
use Rattle.table_risk.proofs.Slots.{one_more}
use Rattle.table_risk.proofs.occupants.put_bucket.Goals as goal

pub loop-slot-preserved : goal.loop-slot-preserved
loop-slot-preserved g c =
    one_more (slot_occupant (g.T.TableView.view c.args.tables.now) c.args.in_new c.args.bucket) c.args.out.now.items c.loop-slot.slot c.loop-slot.out.items c.put_occupant.new.out.items
    c.loop-slot.invariant c.in_ok-put_occupant.ensures

pub returns : goal.returns
unfolding bucket_occupants
returns g c =
    let whole : c.loop-slot.slot ≡ 64 = omega arith in
    c.loop-slot.invariant
    ∙ ap (λ n. c.args.out.now.items ++ flat_map (slot_occupant (g.T.TableView.view c.args.tables.now) c.args.in_new c.args.bucket) (range_with_len 0 n)) whole
