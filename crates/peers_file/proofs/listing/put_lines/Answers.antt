use Rattle.peers_file.specs.Listing.{record_line}
use Rattle.peers_file.proofs.Lines.{one_more}
use Rattle.peers_file.proofs.listing.put_lines.Goals as goal

pub loop-index-preserved : goal.loop-index-preserved
loop-index-preserved c =
    one_more (λ p. record_line c.args.table.now p.0 p.1) c.args.out.now.items c.args.recs.now c.loop-index.index c.index-recs-index.result
    c.loop-index.out.items c.put_line.new.out.items c.loop-index-test.true c.index-recs-index.is c.loop-index.invariant c.in_ok-put_line.ensures
