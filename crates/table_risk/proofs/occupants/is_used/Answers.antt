use Rattle.std.proofs.Common.{◌≡◌, ◌∙◌, ap, arith, is_some, sym}
use Rattle.std.specs.List.{list_any, range_with_len}
use Rattle.table_groups.specs.View.{occupant_at}
use Rattle.table_risk.proofs.Slots.{any_more, any_there}
use Rattle.table_risk.proofs.occupants.is_used.Goals as goal

pub loop-slot-preserved : goal.loop-slot-preserved
loop-slot-preserved g c =
    any_more (λ slot. is_some (occupant_at (g.T.TableView.view c.args.tables.now) c.args.in_new c.args.bucket slot)) c.loop-slot.slot c.loop-slot.invariant
    (sym c.is_occupied.ensures ∙ c.if-is_occupied.false)

pub returns-then-is_occupied : goal.returns-then-is_occupied
returns-then-is_occupied g c =
    sym (any_there (λ slot. is_some (occupant_at (g.T.TableView.view c.args.tables.now) c.args.in_new c.args.bucket slot)) 0 64 c.loop-slot.slot (omega arith) (omega arith)
    (sym c.is_occupied.ensures ∙ c.if-is_occupied.true))

pub returns : goal.returns
returns g c =
    let whole : c.loop-slot.slot ≡ 64 = omega arith in
    sym (sym (ap (λ n. list_any (λ slot. is_some (occupant_at (g.T.TableView.view c.args.tables.now) c.args.in_new c.args.bucket slot)) (range_with_len 0 n)) whole) ∙ c.loop-slot.invariant)
