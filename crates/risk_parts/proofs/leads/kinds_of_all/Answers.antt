use Rattle.std.proofs.Common.{arith}
use Rattle.risk_parts.proofs.Sums.{kinds_more}
use Rattle.risk_parts.proofs.leads.kinds_of_all.Goals as goal

pub loop-chance-preserved : goal.loop-chance-preserved
loop-chance-preserved c = record {
  kinds = kinds_more c.args.leads.now c.args.in_new c.loop-chance.chance-index c.loop-chance.kinds.items c.push.new.self.items c.kind_of_all.result c.loop-chance-test.true
      c.loop-chance.invariant.kinds c.kind_of_all.ensures c.push.ensures.items;
  few = omega (arith, c.push.ensures.len, c.loop-chance.invariant.few);
}
