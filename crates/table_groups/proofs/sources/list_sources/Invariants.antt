use Rattle.std.proofs.Common.{◌≡◌, map, take}
use Rattle.table_groups.specs.Inside.{source_in}
use Rattle.table_groups.specs.Tally.{by_bytes}
use Rattle.table_groups.proofs.sources.list_sources.Given as goal

-- the groups before this one
abbrev pub invariant-loop-counted : goal.invariant-loop-counted
invariant-loop-counted g l = l.sources.items ≡ map (λ c. source_in (by_bytes l.tally.entries) c.group.items) (take l.counted-index l.groups)
