use Rattle.std.proofs.Common.{◌≡◌, ◌+◌, ◌≤◌, length, take}
use Rattle.peer_index.specs.Order.{IsOrder}
use Rattle.tables.specs.Filled.{filled}
use Rattle.tables.proofs.parts.fill.Given as goal

abbrev pub invariant-loop-number : goal.invariant-loop-number
invariant-loop-number g l = record {
  filled : l.index ≡ filled l.ids.items l.recs (take l.number-index l.order);
  long : length l.ids.items ≡ length l.recs;
  order : IsOrder l.index;
  steps : l.steps ≤ l.fn.steps + l.number-index;
}
