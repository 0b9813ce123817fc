use Rattle.std.proofs.Common.{◌≡◌, map}
use Rattle.table_groups.specs.Inside.{counted_source_in}
use Rattle.table_groups.specs.Tally.{by_bytes}
use Rattle.table_groups.proofs.sources.list_groups.Given as goal

-- the groups so far
abbrev pub invariant-loop-group : goal.invariant-loop-group
invariant-loop-group g l =
    l.groups.items ≡ map (λ k. counted_source_in (by_bytes l.tally.entries) k.items) (map (λ k. k.now) l.yielded)
