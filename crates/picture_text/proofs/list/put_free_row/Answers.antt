use Rattle.std.proofs.Common.{ℕ, List, ◌++◌, refl, ap, ◌∙◌}
use Rattle.std.specs.Prelude.{codes}
use Rattle.picture_text.specs.Elements.{ground}
use Rattle.picture_text.specs.Marks.{dots_of}
use Rattle.picture_text.specs.Picture.{free_row, in_tried, top_of}
use Rattle.picture_text.proofs.Texts.{row_same}
use Rattle.picture_text.proofs.list.put_free_row.Goals as goal

pub returns : goal.returns
unfolding free_row
returns c =
    c.in_ok-put_row.ensures ∙ ap (λ (t : List ℕ). c.args.out.now.items ++ t)
    (row_same c.top_of.result (top_of c.args.index) ground ground (codes "free") (codes "free") c.from.result (dots_of c.args.marks.now 0) c.from-2.result (dots_of (in_tried c.args.marks.now) 0)
    c.top_of.ensures.is refl refl (c.from.ensures ∙ c.dots_of.ensures.value)
    (c.from-2.ensures ∙ c.dots_of-2.ensures.value ∙ ap (λ (ms : List ℕ). dots_of ms 0) c.tried_marks.ensures.is))
