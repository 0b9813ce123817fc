use Rattle.std.proofs.Common.{◌≡◌, ℕ, map, rules, ap, ◌∙◌}
use Rattle.std.specs.List.{range_with_len}
use Rattle.picture_text.proofs.Rows.{list_more}
use Rattle.slot_grid.specs.declared.sizes.TheConstants.{ALL_SLOTS}
use Rattle.table_groups.specs.Tally.{by_bytes}
use Rattle.table_picture.specs.By.{rec_in}
use Rattle.table_picture.specs.Inside.{spread_by}
use Rattle.table_picture.specs.Slots.{slot_marks}
use Rattle.table_picture.proofs.marks_by_rule.group_marks.Goals as goal

pub loop-slot-preserved : goal.loop-slot-preserved
loop-slot-preserved g c = record {
  marks = list_more (λ slot. spread_by (g.T.TableView.view c.args.tables.now).places (by_bytes c.args.spread.now.entries) (rec_in (g.T.TableView.view c.args.tables.now) slot)) c.loop-slot.slot c.loop-slot.marks.items c.push.new.self.items c.rec_spread.result
      c.loop-slot.invariant.marks c.in_ok-push.ensures.items
      (c.rec_spread.ensures ∙ (λ i. spread_by (c.places.ensures i) (by_bytes c.args.spread.now.entries) (c.rec_in-rec.ensures i)));
  long = search rules;
}

pub returns-clause-marks : goal.returns-clause-marks
unfolding slot_marks
returns-clause-marks g c =
    let last : c.loop-slot.slot ≡ ALL_SLOTS = search rules in
    c.loop-slot.invariant.marks
    ∙ ap (λ (n : ℕ). map (λ slot. spread_by (g.T.TableView.view c.args.tables.now).places (by_bytes c.args.spread.now.entries) (rec_in (g.T.TableView.view c.args.tables.now) slot)) (range_with_len 0 n)) last
