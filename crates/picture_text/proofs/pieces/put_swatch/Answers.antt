use Rattle.std.specs.Prelude.{codes, decimal}
use Rattle.picture_text.specs.Elements.{swatch}
use Rattle.picture_text.proofs.Texts.{five_parts}
use Rattle.picture_text.proofs.pieces.put_swatch.Goals as goal

pub returns : goal.returns
unfolding swatch
returns c =
    five_parts c.args.out.now.items (codes "<rect x=\"694\" y=\"") (decimal c.args.y) (codes "\" width=\"11\" height=\"11\" fill=\"") c.args.fill.now (codes "\"/>\n")
    c.put_numbered.new.out.items c.put_text.new.out.items c.put_text-2.new.out.items c.in_ok-put_numbered.ensures c.in_ok-put_text.ensures.ok c.in_ok-put_text-2.ensures.ok
