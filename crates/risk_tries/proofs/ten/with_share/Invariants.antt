use Rattle.std.proofs.Common.{◌≡◌, ◌<◌, length, map, take}
use Rattle.std.specs.List.{range_with_len}
use Rattle.risk_tries.specs.Inside.{with_share}
use Rattle.risk_tries.proofs.ten.with_share.Given as goal

abbrev pub invariant-loop-count : goal.invariant-loop-count
invariant-loop-count l = record {
  some : 0 < l.count;
  long : length l.more ≡ 10;
  taken : take l.count l.more ≡ map (with_share l.share l.least) (range_with_len 0 l.count);
}
