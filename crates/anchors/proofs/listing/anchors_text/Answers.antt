use Rattle.std.proofs.Common.{◌++◌, length}
use Rattle.std.specs.Prelude.{codes, decimal}
use Rattle.anchors.specs.Listing.{anchor_line}
use Rattle.anchors.proofs.Lines.{one_more}
use Rattle.anchors.proofs.listing.anchors_text.Goals as goal

pub loop-index-preserved : goal.loop-index-preserved
loop-index-preserved c =
    one_more (λ p. anchor_line p.0 p.1) (codes "anchors " ++ decimal (length c.args.anchors.now) ++ codes "\n") c.args.anchors.now c.loop-index.index c.index-anchors-index.result
    c.loop-index.text.items c.put_line.new.out.items c.loop-index-test.true c.index-anchors-index.is c.loop-index.invariant c.in_ok-put_line.ensures
