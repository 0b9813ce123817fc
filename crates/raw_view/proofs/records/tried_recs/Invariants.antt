use Rattle.std.proofs.Common.{◌≡◌, take}
use Rattle.raw_view.specs.Listed.{tried_recs}
use Rattle.raw_view.proofs.records.tried_recs.Given as goal

abbrev pub invariant-loop-row : goal.invariant-loop-row
invariant-loop-row l = l.recs.items ≡ tried_recs (take l.row-index l.rows)
