use Rattle.std.proofs.Common.{◌≡◌, ◌+◌, ◌≤◌, ◌++◌, flat_map}
use Rattle.std.specs.List.{range_with_len}
use Rattle.table_machine.specs.Snapshot.{pair_at}
use Rattle.tables.specs.Inside.{state_of}
use Rattle.tables.proofs.store.Store.add_bucket.Given as goal

abbrev pub invariant-slots : goal.invariant-slots
invariant-slots g l = record {
  so_far : l.listed.items ≡ l.initial.listed.items ++ flat_map (pair_at (state_of l.self) l.bucket) (range_with_len 0 l.slot);
  steps : l.steps ≤ l.fn.steps + l.slot;
}
