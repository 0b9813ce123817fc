use Rattle.std.proofs.Common.{ℕ, ◌-◌, List, ◌++◌, refl, ap, ◌∙◌}
use Rattle.picture_text.specs.Elements.{colour}
use Rattle.picture_text.specs.Marks.{dots_of}
use Rattle.picture_text.specs.Picture.{mark_row, in_tried, top_of}
use Rattle.picture_text.proofs.Texts.{row_same}
use Rattle.picture_text.proofs.list.put_mark_row.Goals as goal

pub returns : goal.returns
unfolding mark_row
returns c =
    let mark : ℕ = c.args.mark in
    c.in_ok-put_row.ensures ∙ ap (λ (t : List ℕ). c.args.out.now.items ++ t)
    (row_same c.top_of.result (top_of c.args.index) c.colour.result.now (colour (mark - 1)) c.args.name.now c.args.name.now c.from.result (dots_of c.args.marks.now mark) c.from-2.result (dots_of (in_tried c.args.marks.now) mark)
    c.top_of.ensures.is c.colour.ensures refl (c.from.ensures ∙ c.dots_of.ensures.value)
    (c.from-2.ensures ∙ c.dots_of-2.ensures.value ∙ ap (λ (ms : List ℕ). dots_of ms mark) c.tried_marks.ensures.is))
