use Rattle.std.proofs.Common.{◌≡◌, length, map}
use Rattle.std.specs.List.{range_with_len}
use Rattle.table_groups.specs.Tally.{by_bytes}
use Rattle.table_picture.specs.By.{rec_in}
use Rattle.table_picture.specs.Inside.{spread_by}
use Rattle.table_picture.proofs.marks_by_rule.group_marks.Given as goal

-- the marks of the slots before this one
abbrev pub invariant-loop-slot : goal.invariant-loop-slot
invariant-loop-slot g l = record {
  marks : l.marks.items ≡ map (λ slot. spread_by (g.T.TableView.view l.tables).places (by_bytes l.spread.entries) (rec_in (g.T.TableView.view l.tables) slot)) (range_with_len 0 l.slot);
  long : length l.marks.items ≡ l.slot;
}
