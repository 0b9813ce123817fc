use Rattle.anchors.proofs.TextLaws.{one_more, one_more_fits, all_written, all_fit}
use Rattle.anchors.proofs.write.put_body.Goals as goal

pub loop-anchor-preserved : goal.loop-anchor-preserved
loop-anchor-preserved c = record {
  text = one_more c.put_compact.new.out.items c.args.anchors.now c.loop-anchor.anchor-index c.anchor-item.result c.loop-anchor.out.items c.put_anchor.new.out.items c.loop-anchor-test.true c.anchor-item.is c.loop-anchor.invariant.text c.in_ok-put_anchor.ensures.found;
  fit = one_more_fits c.args.anchors.now c.loop-anchor.anchor-index c.anchor-item.result c.loop-anchor-test.true c.anchor-item.is c.loop-anchor.invariant.fit c.in_ok-put_anchor.ensures.fits;
}

pub returns-clause-found : goal.returns-clause-found
returns-clause-found c = all_written c.args.out.now.items c.args.anchors.now c.loop-anchor.anchor-index c.put_compact.new.out.items c.loop-anchor.out.items c.loop-anchor-test.false c.in_ok-put_compact.ensures.found c.loop-anchor.invariant.text

pub returns-clause-fit : goal.returns-clause-fit
returns-clause-fit c = all_fit c.args.anchors.now c.loop-anchor.anchor-index c.loop-anchor-test.false c.loop-anchor.invariant.fit
