use Rattle.std.proofs.Common.{arith, ◌≡◌, ◌++◌, ◌∷◌, []}
use Rattle.wire_num.proofs.LoopLaws.{goes_on, stops, is_done}
use Rattle.wire_num.specs.Readings.{times_at}
use Rattle.anchors.specs.Readings.{anchor_at}
use Rattle.anchors.proofs.read.take_anchors.Goals as goal

pub returns-in-Err-clause-found : goal.returns-in-Err-clause-found
returns-in-Err-clause-found c =
    λ _. stops anchor_at c.loop-index.anchors.items c.args.count c.loop-index.index c.loop-index.rest.now c.in-Err.fault (times_at 0 c.args.count anchor_at c.args.bytes.now) c.loop-index-test.true c.in-Err.ensures c.loop-index.invariant.told

pub loop-index-preserved : goal.loop-index-preserved
loop-index-preserved c =
    let pushed : c.push.new.self.items ≡ c.loop-index.anchors.items ++ c.in-Ok.found.0 ∷ [] = c.in_ok-push.ensures.items in
    record {
      told = rw pushed (goes_on anchor_at c.loop-index.anchors.items c.args.count c.loop-index.index c.loop-index.rest.now c.in-Ok.found.0 c.in-Ok.found.1.now (times_at 0 c.args.count anchor_at c.args.bytes.now) c.loop-index-test.true c.in-Ok.ensures c.loop-index.invariant.told);
      counted = omega (arith, c.loop-index.invariant.counted, c.in_ok-push.ensures.len);
    }

pub returns-clause-found : goal.returns-clause-found
returns-clause-found c = is_done anchor_at c.loop-index.anchors.items c.args.count c.loop-index.index c.loop-index.rest.now (times_at 0 c.args.count anchor_at c.args.bytes.now) c.loop-index-test.false c.loop-index.invariant.told
