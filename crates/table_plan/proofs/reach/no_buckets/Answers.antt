use Rattle.std.proofs.Common.{None}
use Rattle.std.proofs.lemmas.List.{get_or-replicate}
use Rattle.table_plan.proofs.reach.no_buckets.Goals as goal

pub returns : goal.returns
returns c choice less = get_or-replicate 64 choice None None less
