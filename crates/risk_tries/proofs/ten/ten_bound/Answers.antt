use Rattle.std.proofs.Common.{arith}
use Rattle.risk_tries.proofs.LeastSums.{all_low, by_product}
use Rattle.risk_tries.proofs.ten.ten_bound.Goals as goal

pub product-requires-clause-opened : goal.product-requires-clause-opened
product-requires-clause-opened c = all_low c.in-Some.total c.in-Some.total c.args.shares.now c.least_sums.result (omega arith) c.least_sums.ensures

pub returns-in-Some-clause-is : goal.returns-in-Some-clause-is
returns-in-Some-clause-is c =
    by_product c.args.shares.now c.least_sums.result c.in-Some.total c.args.whole c.product.result c.in-Some.ensures.found c.in-Some.ensures.below
    c.least_sums.ensures c.product.ensures.is
