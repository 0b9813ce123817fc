use Rattle.std.proofs.Common.{arith}
use Rattle.table_risk.proofs.MaskGaps.{idle_found, idle_more}
use Rattle.table_risk.proofs.gaps.idle_below.Goals as goal

pub returns-then-mask-at-eq1-clause-is : goal.returns-then-mask-at-eq1-clause-is
returns-then-mask-at-eq1-clause-is c =
    idle_found c.args.mask c.args.slot c.loop-at.at c.loop-at.count c.loop-at-test.true c.if-mask-at-eq1.true c.loop-at.invariant.is

pub loop-at-preserved : goal.loop-at-preserved
loop-at-preserved c = record {
  below = omega (arith, c.loop-at.invariant.below, c.loop-at-test.true);
  is = idle_more c.args.mask c.args.slot c.loop-at.at c.loop-at.count c.loop-at-test.true c.if-mask-at-eq1.false c.loop-at.invariant.is;
}
