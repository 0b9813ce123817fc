use Rattle.std.proofs.Common.{◌≡◌, ◌<◌, take, sum}
use Rattle.risk_tries.proofs.ten.sum_below.Given as goal

abbrev pub invariant-loop-share : goal.invariant-loop-share
invariant-loop-share l = record {
  is : l.total ≡ sum (take l.share-index l.shares);
  below : l.total < l.whole;
}
