use Rattle.std.proofs.Common.{◌≡◌, ◌+◌, ◌*◌, ◌≤◌, flat_map}
use Rattle.std.specs.List.{range_with_len}
use Rattle.table_machine.specs.Snapshot.{listed_in}
use Rattle.tables.specs.Inside.{state_of}
use Rattle.tables.proofs.store.Store.listed.Given as goal

abbrev pub invariant-buckets : goal.invariant-buckets
invariant-buckets g l = record {
  so_far : l.listed.items ≡ flat_map (listed_in (state_of l.self)) (range_with_len 0 l.bucket);
  steps : l.steps ≤ l.fn.steps + 64 * l.bucket;
}
