use Rattle.std.proofs.Common.{◌≡◌}
use Rattle.std.specs.List.{flat_map, range_with_len}
use Rattle.table_risk.specs.Occupants.{bucket_occupants}
use Rattle.table_risk.proofs.occupants.occupants_of.Given as goal

-- the records in the slots of the buckets before this one
abbrev pub invariant-loop-bucket : goal.invariant-loop-bucket
invariant-loop-bucket g l = l.found.items ≡ flat_map (bucket_occupants (g.T.TableView.view l.tables) l.in_new) (range_with_len 0 l.bucket)
