use Rattle.std.proofs.Common.{◌≡◌, ◌*◌, ◌≤◌}
use Rattle.picture_text.specs.Spread.{reached}
use Rattle.picture_text.proofs.spread.reached.Given as goal

-- what the slots before this one reach
abbrev pub invariant-loop : goal.invariant-loop
invariant-loop l = record {
  value : l.parts ≡ reached l.buckets l.counter;
  few : l.parts ≤ 65536 * l.buckets;
}
