use Rattle.std.proofs.Common.{arith, refl}
use Rattle.prefix_table.proofs.InOrder.{rise}
use Rattle.prefix_table.proofs.in_order.rises.Goals as goal

pub returns : goal.returns
returns c = (λ _. rise c.args.rows.now (λ k d low. c.loop-i.invariant k d (omega (arith, c.loop-i-test.false))), λ _. refl)
