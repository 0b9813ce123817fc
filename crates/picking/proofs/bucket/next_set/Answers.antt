use Rattle.std.proofs.Common.{arith, rules}
use Rattle.picking.proofs.FirstBits.{first_bit, no_bit}
use Rattle.picking.proofs.bucket.next_set.Goals as goal

pub returns-then-at-to-clause-set : goal.returns-then-at-to-clause-set
returns-then-at-to-clause-set c = (first_bit c.args.mask c.args.from (search rules) (omega arith)).set

pub returns-then-at-to-clause-first : goal.returns-then-at-to-clause-first
returns-then-at-to-clause-first c = (first_bit c.args.mask c.args.from (search rules) (omega arith)).before

pub returns-else-at-to-clause-none : goal.returns-else-at-to-clause-none
returns-else-at-to-clause-none c = λ i high low. no_bit c.args.mask c.args.from c.args.to i (search rules) (omega arith) high low
