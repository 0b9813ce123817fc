use Rattle.std.proofs.Common.{◌*◌, ap, ◌∙◌}
use Rattle.risk_sum.specs.Kinds.{most_by, rounded_up}
use Rattle.risk_sum.proofs.Bounds.{at_end, added, one_turn, lower}
use Rattle.risk_sum.proofs.kinds.most.Goals as goal

pub loop-preserved : goal.loop-preserved
loop-preserved c = record {
  busy = c.loop.invariant.busy;
  value = one_turn c.args.kinds.now (c.starts-busy.result * 1073741824) c.loop.left c.loop.sum c.loop.factor c.loop.counter c.args.ahead _
      c.part-sum.result c.part-left.result c.next_factor-factor.result c.loop-test.true
      (c.part-sum.ensures.is ∙ ap (λ k. rounded_up (c.loop.left * k) (c.starts-busy.result * 1073741824)) c.taken.ensures.is)
      (c.part-left.ensures.is ∙ ap (λ k. rounded_up (c.loop.left * k) (c.starts-busy.result * 1073741824)) c.refused.ensures.is)
      c.next_factor-factor.ensures.value c.loop.invariant.value;
  low = lower c.part-left.ensures.most c.loop.invariant.low;
  few = added c.loop.sum c.part-sum.result c.loop.counter c.loop.left c.loop.invariant.few c.part-sum.ensures.most c.loop.invariant.low;
  factor = c.next_factor-factor.ensures.max;
}

pub returns : goal.returns
returns c =
    at_end c.args.kinds.now (c.starts-busy.result * 1073741824) c.loop.left c.loop.sum c.loop.factor c.loop.counter c.args.ahead _
    c.loop.auto.counter-end c.loop-test.false c.loop.invariant.value
    ∙ ap (λ k. most_by c.args.kinds.now k 18446744073709551616 c.args.ahead 1073741824) c.loop.invariant.busy
