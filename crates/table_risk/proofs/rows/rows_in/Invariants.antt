use Rattle.std.proofs.Common.{◌≡◌, map}
use Rattle.table_groups.specs.Tally.{by_bytes, value_in}
use Rattle.table_risk.specs.Inside.{row_in, side_value}
use Rattle.table_risk.proofs.rows.rows_in.Given as goal

-- the rows so far
abbrev pub invariant-loop-group : goal.invariant-loop-group
invariant-loop-group g l =
    l.rows.items ≡ map (λ k. row_in (side_value l.new) (side_value l.tried) k.items (value_in l.none (by_bytes l.firsts.entries) k.items)) (map (λ k. k.now) l.yielded)
