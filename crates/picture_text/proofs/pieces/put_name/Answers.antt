use Rattle.std.specs.Prelude.{codes, decimal}
use Rattle.picture_text.specs.Elements.{name_text}
use Rattle.picture_text.proofs.Texts.{five_parts}
use Rattle.picture_text.proofs.pieces.put_name.Goals as goal

pub returns : goal.returns
unfolding name_text
returns c =
    five_parts c.args.out.now.items (codes "<text x=\"712\" y=\"") (decimal c.args.y) (codes "\">") c.args.name.now (codes "</text>\n")
    c.put_numbered.new.out.items c.put_text.new.out.items c.put_text-2.new.out.items c.in_ok-put_numbered.ensures c.in_ok-put_text.ensures.ok c.in_ok-put_text-2.ensures.ok
