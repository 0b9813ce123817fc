use Rattle.std.proofs.Common.{◌≡◌, take}
use Rattle.table_groups.specs.Inside.{AreFewRecords, records_by}
use Rattle.table_groups.specs.Tally.{by_bytes}
use Rattle.table_groups.proofs.group_records.tally_records.Given as goal

-- the records before this one are counted
abbrev pub invariant-loop-rec : goal.invariant-loop-rec
invariant-loop-rec g l = record {
  counted : by_bytes l.tally.entries ≡ records_by l.placer (take l.rec-index l.recs);
  few : AreFewRecords l.rec-index (by_bytes l.tally.entries);
}
