use Rattle.std.proofs.Common.{◌≡◌, ◌++◌}
use Rattle.std.specs.List.{flat_map, range_with_len}
use Rattle.table_picture.specs.Marks.{bucket_marks}
use Rattle.table_picture.proofs.marks.put_table.Given as goal

-- the marks of the buckets before this one
abbrev pub invariant-loop-bucket : goal.invariant-loop-bucket
invariant-loop-bucket g l = l.out.items ≡ l.initial.out.items ++ flat_map (bucket_marks (g.T.TableView.view l.tables) l.listed l.in_new) (range_with_len 0 l.bucket)
