use Rattle.std.proofs.Common.{ℕ, List, ◌++◌, map, ap, ◌∙◌}
use Rattle.picture_text.specs.Maps.{name_at, path_element}
use Rattle.picture_text.proofs.Rows.{one_more}
use Rattle.picture_text.proofs.maps.put_paths.Goals as goal

pub loop-index-preserved : goal.loop-index-preserved
loop-index-preserved c =
    one_more (λ index. path_element c.args.marks.now c.args.side (name_at (map (λ v. v.items) c.args.names.now) index) index) c.args.out.now.items c.loop-index.index c.loop-index.out.items c.put_element.new.out.items c.loop-index.invariant
    (c.in_ok-put_element.ensures ∙ ap (λ (name : List ℕ). c.loop-index.out.items ++ path_element c.args.marks.now c.args.side name c.loop-index.index) c.name_at.ensures)
