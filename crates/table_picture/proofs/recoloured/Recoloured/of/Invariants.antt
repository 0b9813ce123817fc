use Rattle.std.proofs.Common.{◌≡◌, map}
use Rattle.std.specs.List.{range_with_len}
use Rattle.std.specs.Prelude.{option_map}
use Rattle.table_picture.specs.By.{rec_in, recoloured}
use Rattle.table_picture.proofs.recoloured.Recoloured.of.Given as goal

-- the records in the slots before this one
abbrev pub invariant-loop-slot : goal.invariant-loop-slot
invariant-loop-slot g l = l.slots.items ≡ map (λ slot. option_map (recoloured l.by l.newest) (rec_in (g.T.TableView.view l.tables) slot)) (range_with_len 0 l.slot)
