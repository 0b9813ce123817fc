use Rattle.std.proofs.Common.{ℕ, List, ◌+◌, ◌++◌, refl, ap, ◌∙◌}
use Rattle.picture_text.specs.Elements.{colour, count_text, row_text}
use Rattle.picture_text.specs.Picture.{group_row, top_of}
use Rattle.picture_text.proofs.Texts.{row_same, count_same, two_parts}
use Rattle.picture_text.proofs.list.put_group_row.Goals as goal

pub returns : goal.returns
unfolding group_row
returns c =
    let s = c.args.source.now in
    let y : ℕ = top_of c.args.index in
    two_parts c.args.out.now.items (row_text y (colour c.args.index) c.args.name.now (s.new + s.tried) s.tried) (count_text 1056 (y + 10) s.buckets) c.put_row.new.out.items c.put_count.new.out.items
    (c.in_ok-put_row.ensures ∙ ap (λ (t : List ℕ). c.args.out.now.items ++ t)
    (row_same c.top_of-y.result y c.colour.result.now (colour c.args.index) c.args.name.now c.args.name.now (c.from.result + c.from-tried.result) (s.new + s.tried) c.from-tried.result s.tried
    c.top_of-y.ensures.is c.colour.ensures refl (λ i. c.from.ensures i + c.from-tried.ensures i) c.from-tried.ensures))
    (c.in_ok-put_count.ensures ∙ ap (λ (t : List ℕ). c.put_row.new.out.items ++ t)
    (count_same 1056 (c.top_of-y.result + 10) (y + 10) c.from-2.result s.buckets (ap (λ (n : ℕ). n + 10) c.top_of-y.ensures.is) c.from-2.ensures))
