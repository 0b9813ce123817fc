use Rattle.std.proofs.Common.{◌≡◌, ◌+◌, ◌*◌, ◌≤◌, length, drop}
use Rattle.tried_clash.proofs.Turns.{IsLeft}
use Rattle.tried_clash.proofs.resolution.resolve.Given as goal

abbrev pub invariant-loop-number : goal.invariant-loop-number
invariant-loop-number g l = record {
  left : IsLeft l.initial.tables l.tables l.now l.resolved (drop l.number-index l.initial.tables.collisions);
  counts : l.resolved.erased + l.resolved.moved + l.resolved.kept ≡ l.number-index;
  few : length l.initial.tables.collisions ≤ 10;
  steps : l.steps ≤ l.fn.steps + 44 * l.number-index;
}
