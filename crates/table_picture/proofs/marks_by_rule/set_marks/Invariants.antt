use Rattle.std.proofs.Common.{◌≡◌, length, map}
use Rattle.std.specs.List.{range_with_len}
use Rattle.table_picture.specs.By.{rec_in}
use Rattle.table_picture.specs.Slots.{rec_set}
use Rattle.table_picture.proofs.marks_by_rule.set_marks.Given as goal

-- the marks of the slots before this one
abbrev pub invariant-loop-slot : goal.invariant-loop-slot
invariant-loop-slot g l = record {
  marks : l.marks.items ≡ map (λ slot. rec_set (g.T.TableView.view l.tables).places l.sets (rec_in (g.T.TableView.view l.tables) slot)) (range_with_len 0 l.slot);
  long : length l.marks.items ≡ l.slot;
}
