use Rattle.std.proofs.Common.{◌≡◌, ◌+◌, ◌*◌, ◌-◌, ◌≤◌}
use Rattle.picking.specs.Inside.{candidate_in}
use Rattle.picking.proofs.bucket.candidate_in.Given as goal

-- none of the slots before has a wanted record
abbrev pub invariant-loop-slot : goal.invariant-loop-slot
invariant-loop-slot g l = record {
  rest : candidate_in l.tables l.in_new l.nets l.bucket l.at (l.to - l.at) ≡ candidate_in l.tables l.in_new l.nets l.bucket l.from (l.to - l.from);
  after : l.from ≤ l.at;
  within : l.at ≤ l.to;
  steps : l.steps ≤ l.fn.steps + 2 * (l.at - l.from);
}

abbrev pub decreases-loop-slot : goal.decreases-loop-slot
decreases-loop-slot g l = l.to - l.at
