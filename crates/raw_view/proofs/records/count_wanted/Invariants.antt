use Rattle.std.proofs.Common.{◌≡◌, ◌≤◌, take}
use Rattle.std.specs.Prelude.{count_by}
use Rattle.table_machine.specs.Picks.{is_wanted}
use Rattle.raw_view.proofs.records.count_wanted.Given as goal

abbrev pub invariant-loop-rec : goal.invariant-loop-rec
invariant-loop-rec l = (l.count ≡ count_by (is_wanted l.nets) (take l.rec-index l.recs)) × (l.count ≤ l.rec-index)
