use Rattle.std.proofs.Common.{rules}
use Rattle.std.proofs.lemmas.List.Sorted.{IsPartitionPoint-from_clause}
use Rattle.asmap_compile.specs.Inside.{is_low}
use Rattle.asmap_compile.proofs.part.middle_of.Goals as goal

pub returns-clause-sides : goal.returns-clause-sides
returns-clause-sides c =
    IsPartitionPoint-from_clause (is_low c.args.depth) c.args.rows.now c.partition_point.result c.partition_point.ensures.partitioned c.requires.sides (λ a r f q. search rules)
