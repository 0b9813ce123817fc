use Rattle.std.proofs.Common.{◌+◌, List, ℕ, ◌++◌, ap, ◌∙◌}
use Rattle.std.specs.Prelude.{codes}
use Rattle.dot_runs.specs.Tables.{path_text}
use Rattle.picture_text.specs.Elements.{colour}
use Rattle.picture_text.specs.Maps.{path_element}
use Rattle.picture_text.proofs.Texts.{seven_parts}
use Rattle.picture_text.proofs.maps.put_element.Goals as goal

pub returns : goal.returns
unfolding path_element
returns c =
    seven_parts c.args.out.now.items (codes "<path fill=\"") (colour c.args.index) (codes "\" d=\"") (path_text (c.args.index + 1) c.args.side c.args.marks.now)
    (codes "\"><title>") c.args.name.now (codes "</title></path>\n")
    c.put_around.new.out.items c.put_path.new.out.items c.put_around-2.new.out.items
    (c.in_ok-put_around.ensures ∙ ap (λ (t : List ℕ). c.args.out.now.items ++ (codes "<path fill=\"" ++ (t ++ codes "\" d=\""))) c.colour.ensures)
    c.in_ok-put_path.ensures c.in_ok-put_around-2.ensures
