use Rattle.std.proofs.Common.{◌≡◌, List, ℕ, ◌++◌, true, false, ap, ◌∙◌}
use Rattle.table_picture.specs.Marks.{marks_by, table_marks}
use Rattle.table_picture.proofs.Slots.{marks-length}
use Rattle.table_picture.proofs.marks.marks_by.Goals as goal

pub returns : goal.returns
unfolding marks_by
returns g c =
    let view = (g.T.TableView.view c.args.tables.now) in
    let listed = c.args.listed.now in
    let all : c.put_table-2.new.out.items ≡ marks_by view listed =
    c.in_ok-put_table-2.ensures ∙ ap (λ (t : List ℕ). t ++ table_marks view listed false)
    (c.in_ok-put_table.ensures ∙ ap (λ (t : List ℕ). t ++ table_marks view listed true) c.new-marks.ensures.items) in
    record { marks = all; long = marks-length view listed c.put_table-2.new.out.items all }
