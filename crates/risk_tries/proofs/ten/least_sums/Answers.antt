use Rattle.std.proofs.Common.{drop, ◌^◌}
use Rattle.risk_tries.proofs.LeastSums.{all_low}
use Rattle.risk_tries.proofs.ten.least_sums.Goals as goal

pub with_share-least-requires-clause-each : goal.with_share-least-requires-clause-each
with_share-least-requires-clause-each c =
    all_low c.args.none (2 ^ 65) (drop c.loop-from.from c.args.shares.now) c.loop-from.least c.requires.none c.loop-from.invariant.is
