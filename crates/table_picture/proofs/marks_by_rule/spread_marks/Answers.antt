use Rattle.std.proofs.Common.{◌≡◌, List, ℕ, subst}
use Rattle.std.specs.Prelude.{IfOk}
use Rattle.table_groups.specs.Tally.{by_bytes}
use Rattle.table_groups.specs.View.{View}
use Rattle.table_picture.specs.Slots.{spread_in}
use Rattle.table_picture.proofs.Spreads.{of-slots}
use Rattle.table_picture.proofs.marks_by_rule.spread_marks.Goals as goal

pub returns-clause-marks : goal.returns-clause-marks
returns-clause-marks g c =
    let view : View = g.T.TableView.view c.args.tables.now in
    subst (λ (t : List ℕ). IfOk c.group_marks.result (λ marks. marks.items ≡ t))
    (of-slots view (spread_in c.args.by c.args.sources.now) (by_bytes c.in_ok-spread.spread.entries) c.in_ok-spread.ensures)
    c.group_marks.ensures.marks
