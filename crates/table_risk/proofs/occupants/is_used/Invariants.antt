use Rattle.std.proofs.Common.{◌≡◌, false, is_some}
use Rattle.std.specs.List.{list_any, range_with_len}
use Rattle.table_groups.specs.View.{occupant_at}
use Rattle.table_risk.proofs.occupants.is_used.Given as goal

-- none of the slots before this one has a record
abbrev pub invariant-loop-slot : goal.invariant-loop-slot
invariant-loop-slot g l = list_any (λ slot. is_some (occupant_at (g.T.TableView.view l.tables) l.in_new l.bucket slot)) (range_with_len 0 l.slot) ≡ false
