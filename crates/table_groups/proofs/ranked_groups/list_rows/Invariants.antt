use Rattle.std.proofs.Common.{◌≡◌, map, take}
use Rattle.table_groups.specs.Inside.{row_in}
use Rattle.table_groups.specs.Tally.{by_bytes}
use Rattle.table_groups.proofs.ranked_groups.list_rows.Given as goal

-- the rows of the groups before this one
abbrev pub invariant-loop-counted : goal.invariant-loop-counted
invariant-loop-counted g l = l.rows.items ≡ map (λ c. row_in (by_bytes l.records.entries) (by_bytes l.slots.entries) c.group.items) (take l.counted-index l.groups)
