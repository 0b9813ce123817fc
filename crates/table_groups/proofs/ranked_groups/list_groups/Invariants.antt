use Rattle.std.proofs.Common.{◌≡◌, map}
use Rattle.table_groups.specs.Inside.{counted_in}
use Rattle.table_groups.specs.Tally.{by_bytes}
use Rattle.table_groups.proofs.ranked_groups.list_groups.Given as goal

-- the groups so far
abbrev pub invariant-loop-group : goal.invariant-loop-group
invariant-loop-group g l =
    l.groups.items ≡ map (λ k. counted_in (by_bytes l.records.entries) (by_bytes l.slots.entries) k.items) (map (λ k. k.now) l.yielded)
