use Rattle.std.proofs.Common.{◌≡◌, ◌+◌, ◌*◌, ◌≤◌, length, map, take}
use Rattle.tables.specs.Saving.{number_id}
use Rattle.tables.proofs.store.Store.numbered.Given as goal

abbrev pub invariant-loop-position : goal.invariant-loop-position
invariant-loop-position g l = record {
  sofar : l.pairs.items ≡ take l.position (map number_id l.self.index);
  end : l.position-end ≡ length l.self.index;
  steps : l.steps ≤ l.fn.steps + 2 * l.position;
}
