use Rattle.std.proofs.Common.{◌≡◌, ◌≤◌, drop, length}
use Rattle.risk_tries.specs.Inside.{least_sums}
use Rattle.risk_tries.proofs.ten.least_sums.Given as goal

-- those of the shares from here on
abbrev pub invariant-loop-from : goal.invariant-loop-from
invariant-loop-from l = record {
  low : l.from ≤ length l.shares;
  is : l.least ≡ least_sums l.none (drop l.from l.shares);
}

abbrev pub decreases-loop-from : goal.decreases-loop-from
decreases-loop-from l = l.from
