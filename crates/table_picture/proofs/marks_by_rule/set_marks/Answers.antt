use Rattle.std.proofs.Common.{◌≡◌, ℕ, map, rules, ap, ◌∙◌}
use Rattle.std.specs.List.{range_with_len}
use Rattle.picture_text.proofs.Rows.{list_more}
use Rattle.slot_grid.specs.declared.sizes.TheConstants.{ALL_SLOTS}
use Rattle.table_picture.specs.By.{rec_in}
use Rattle.table_picture.specs.Slots.{rec_set, slot_marks}
use Rattle.table_picture.proofs.marks_by_rule.set_marks.Goals as goal

pub loop-slot-preserved : goal.loop-slot-preserved
loop-slot-preserved g c = record {
  marks = list_more (λ slot. rec_set (g.T.TableView.view c.args.tables.now).places c.args.sets.now (rec_in (g.T.TableView.view c.args.tables.now) slot)) c.loop-slot.slot c.loop-slot.marks.items c.push.new.self.items c.rec_set.result
      c.loop-slot.invariant.marks c.in_ok-push.ensures.items
      (c.rec_set.ensures ∙ (λ i. rec_set (c.places.ensures i) c.args.sets.now (c.rec_in-rec.ensures i)));
  long = search rules;
}

pub returns-clause-marks : goal.returns-clause-marks
unfolding slot_marks
returns-clause-marks g c =
    let last : c.loop-slot.slot ≡ ALL_SLOTS = search rules in
    c.loop-slot.invariant.marks
    ∙ ap (λ (n : ℕ). map (λ slot. rec_set (g.T.TableView.view c.args.tables.now).places c.args.sets.now (rec_in (g.T.TableView.view c.args.tables.now) slot)) (range_with_len 0 n)) last
