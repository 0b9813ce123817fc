use Rattle.std.proofs.Common.{◌≡◌, ◌++◌}
use Rattle.std.specs.List.{flat_map, range_with_len}
use Rattle.table_risk.specs.Occupants.{slot_occupant}
use Rattle.table_risk.proofs.occupants.put_bucket.Given as goal

-- the records in the slots before this one
abbrev pub invariant-loop-slot : goal.invariant-loop-slot
invariant-loop-slot g l = l.out.items ≡ l.initial.out.items ++ flat_map (slot_occupant (g.T.TableView.view l.tables) l.in_new l.bucket) (range_with_len 0 l.slot)
