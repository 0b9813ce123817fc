use Rattle.std.proofs.Common.{◌≡◌, ℕ, map, rules, ap, ◌∙◌}
use Rattle.std.specs.List.{range_with_len}
use Rattle.std.specs.Prelude.{option_map}
use Rattle.slot_grid.specs.declared.sizes.TheConstants.{ALL_SLOTS}
use Rattle.table_picture.specs.By.{rec_in, recoloured, with_slots}
use Rattle.table_picture.proofs.Rows.{slot_more}
use Rattle.table_picture.proofs.recoloured.Recoloured.of.Goals as goal

pub loop-slot-preserved : goal.loop-slot-preserved
loop-slot-preserved g c =
    slot_more (λ slot. option_map (recoloured c.args.by c.args.newest) (rec_in (g.T.TableView.view c.args.tables.now) slot)) c.loop-slot.slot c.loop-slot.slots.items c.push.new.self.items c.with_address.result
    c.loop-slot.invariant c.in_ok-push.ensures.items
    (c.with_address.ensures ∙ ap (option_map (recoloured c.args.by c.args.newest)) c.rec_in.ensures)

pub returns : goal.returns
returns g c =
    let last : c.loop-slot.slot ≡ ALL_SLOTS = search rules in
    ap (with_slots (g.T.TableView.view c.args.tables.now))
    (c.loop-slot.invariant
    ∙ ap (λ (n : ℕ). map (λ slot. option_map (recoloured c.args.by c.args.newest) (rec_in (g.T.TableView.view c.args.tables.now) slot)) (range_with_len 0 n)) last)
