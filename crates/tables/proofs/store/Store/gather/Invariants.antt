use Rattle.std.proofs.Common.{◌≡◌, ◌+◌, ◌≤◌, map, filter, not, take}
use Rattle.std.specs.Prelude.{vec_len}
use Rattle.peer_rec.specs.Rec.{is_tried}
use Rattle.table_machine.specs.Snapshot.{file_rec}
use Rattle.tables.specs.Inside.{state_of}
use Rattle.tables.proofs.Gathered.{AreKnown}
use Rattle.tables.proofs.store.Store.gather.Given as goal

abbrev pub invariant-loop-id : goal.invariant-loop-id
invariant-loop-id g l = record {
  new : l.gathered.new_recs.items ≡ map file_rec (filter (λ r. not (is_tried r)) (take l.id-index (state_of l.self).records));
  tried : l.gathered.tried_recs.items ≡ map file_rec (filter is_tried (take l.id-index (state_of l.self).records));
  known : AreKnown (state_of l.self).records l.ids l.gathered.indexes.items l.id-index;
  size : vec_len l.gathered.indexes ≡ vec_len l.initial.gathered.indexes;
  steps : l.steps ≤ l.fn.steps + l.id-index;
}
