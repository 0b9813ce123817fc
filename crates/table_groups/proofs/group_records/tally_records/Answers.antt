use Rattle.std.proofs.Common.{◌+◌, subst, sym}
use Rattle.table_groups.proofs.OfRecords.{few-records, record-more}
use Rattle.table_groups.specs.Groups.{counted_group}
use Rattle.table_groups.specs.Inside.{AreFewRecords}
use Rattle.table_groups.specs.Tally.{by_bytes}
use Rattle.table_groups.proofs.group_records.tally_records.Goals as goal

pub loop-rec-preserved : goal.loop-rec-preserved
loop-rec-preserved g c = record {
  counted = record-more c.args.placer.now c.args.recs.now c.loop-rec.rec-index c.rec-item.result (by_bytes c.loop-rec.tally.entries) (by_bytes c.note_record.new.tally.entries) c.loop-rec-test.true
      c.rec-item.is c.loop-rec.invariant.counted c.in_ok-note_record.ensures;
  few = subst (AreFewRecords (c.loop-rec.rec-index + 1)) (sym c.in_ok-note_record.ensures)
      (few-records c.loop-rec.rec-index (by_bytes c.loop-rec.tally.entries) (counted_group c.args.placer.now c.rec-item.result, c.rec-item.result) c.loop-rec.invariant.few);
}
