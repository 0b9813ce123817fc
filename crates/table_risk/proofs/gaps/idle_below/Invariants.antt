use Rattle.std.proofs.Common.{◌≡◌, ◌+◌}
use Rattle.table_risk.specs.Inside.{in_mask}
use Rattle.table_laws.specs.Rounds.{idle_below}
use Rattle.table_risk.proofs.gaps.idle_below.Given as goal

abbrev pub invariant-loop-at : goal.invariant-loop-at
invariant-loop-at l = record {
  below : l.count + l.at ≡ l.slot;
  is : l.count + idle_below (in_mask l.mask) l.at ≡ idle_below (in_mask l.mask) l.slot;
}

abbrev pub decreases-loop-at : goal.decreases-loop-at
decreases-loop-at l = l.at
