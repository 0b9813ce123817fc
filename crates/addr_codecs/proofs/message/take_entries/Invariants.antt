use Rattle.std.proofs.Common.{◌≡◌, ◌-◌, vec_len}
use Rattle.wire_num.specs.Readings.{times_at}
use Rattle.wire_num.proofs.LoopLaws.{with_front}
use Rattle.addr_codecs.specs.Inside.{entry_at}
use Rattle.addr_codecs.proofs.message.take_entries.Given as goal

-- the entries that were read and those that are left are all of them
abbrev pub invariant-loop : goal.invariant-loop
invariant-loop l = record {
  told : with_front l.entries.items (times_at l.counter (l.count - l.counter) (λ _. entry_at l.form) l.rest) ≡ times_at 0 l.count (λ _. entry_at l.form) l.bytes;
  counted : vec_len l.entries ≡ l.counter;
}
