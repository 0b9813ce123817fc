use Rattle.std.proofs.Common.{◌≡◌, ◌++◌, map}
use Rattle.std.specs.List.{range_with_len}
use Rattle.table_picture.specs.Marks.{rec_mark}
use Rattle.table_picture.proofs.marks.put_bucket.Given as goal
use Rattle.table_groups.specs.View.{occupant_at}

-- the marks of the slots before this one
abbrev pub invariant-loop-slot : goal.invariant-loop-slot
invariant-loop-slot g l = l.out.items ≡ l.initial.out.items ++ map (λ slot. rec_mark (g.T.TableView.view l.tables).places l.listed (occupant_at (g.T.TableView.view l.tables) l.in_new l.bucket slot)) (range_with_len 0 l.slot)
