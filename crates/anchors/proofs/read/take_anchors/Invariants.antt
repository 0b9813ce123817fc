use Rattle.std.proofs.Common.{◌≡◌, ◌-◌, vec_len}
use Rattle.wire_num.specs.Readings.{times_at}
use Rattle.wire_num.proofs.LoopLaws.{with_front}
use Rattle.anchors.specs.Readings.{anchor_at}
use Rattle.anchors.proofs.read.take_anchors.Given as goal

-- the anchors that were read and those that are left are all of them
abbrev pub invariant-loop-index : goal.invariant-loop-index
invariant-loop-index l = record {
  told : with_front l.anchors.items (times_at l.index (l.count - l.index) anchor_at l.rest) ≡ times_at 0 l.count anchor_at l.bytes;
  counted : vec_len l.anchors ≡ l.index;
}
