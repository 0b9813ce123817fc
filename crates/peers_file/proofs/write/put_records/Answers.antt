use Rattle.peer_rec.specs.Snapshot.{IsFileRec}
use Rattle.peers_file.specs.Texts.{record_text}
use Rattle.peers_file.proofs.WriteLaws.{one_more, one_more_fits, all_written, all_fit}
use Rattle.peers_file.proofs.write.put_records.Goals as goal

pub loop-rec-preserved : goal.loop-rec-preserved
loop-rec-preserved c = record {
  text = one_more record_text c.args.out.now.items c.args.recs.now c.loop-rec.rec-index c.rec-item.result c.loop-rec.out.items c.put_record.new.out.items c.loop-rec-test.true c.rec-item.is c.loop-rec.invariant.text c.in_ok-put_record.ensures.found;
  fit = one_more_fits IsFileRec c.args.recs.now c.loop-rec.rec-index c.rec-item.result c.loop-rec-test.true c.rec-item.is c.loop-rec.invariant.fit c.in_ok-put_record.ensures.fits;
}

pub returns-clause-found : goal.returns-clause-found
returns-clause-found c = all_written record_text c.args.out.now.items c.args.recs.now c.loop-rec.rec-index c.loop-rec.out.items c.loop-rec-test.false c.loop-rec.invariant.text

pub returns-clause-fit : goal.returns-clause-fit
returns-clause-fit c = all_fit IsFileRec c.args.recs.now c.loop-rec.rec-index c.loop-rec-test.false c.loop-rec.invariant.fit
