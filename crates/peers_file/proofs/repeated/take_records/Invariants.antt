use Rattle.std.proofs.Common.{◌≡◌, ◌≤◌, ◌+◌, ◌-◌, vec_len, All}
use Rattle.wire_num.specs.Readings.{times_at}
use Rattle.wire_num.proofs.LoopLaws.{with_front}
use Rattle.peer_rec.specs.declared.file_rec.TheConstants.{MAX_ATTEMPTS}
use Rattle.peers_file.specs.Readings.{record_in_at}
use Rattle.peers_file.proofs.repeated.take_records.Given as goal

-- the records that were read and those that are left are all of them
abbrev pub invariant-loop-index : goal.invariant-loop-index
invariant-loop-index l = record {
  told : with_front l.recs.items (times_at l.index (l.first + l.count - l.index) (record_in_at l.format) l.rest) ≡ times_at l.first l.count (record_in_at l.format) l.bytes;
  counted : vec_len l.recs + l.first ≡ l.index;
  attempts : All (λ r. r.attempts ≤ MAX_ATTEMPTS) l.recs.items;
}
