use Rattle.std.proofs.Common.{arith, ◌≡◌, ◌+◌, ◌++◌, ◌∷◌, []}
use Rattle.wire_num.specs.Readings.{times_at}
use Rattle.wire_num.proofs.LoopLaws.{goes_on, stops, is_done}
use Rattle.peers_file.specs.Readings.{record_in_at}
use Rattle.peers_file.proofs.BucketLaws.{few_more}
use Rattle.peers_file.proofs.repeated.take_records.Goals as goal

pub returns-in-Err-clause-found : goal.returns-in-Err-clause-found
returns-in-Err-clause-found c =
    λ _. stops (record_in_at c.args.format) c.loop-index.recs.items (c.args.first + c.args.count) c.loop-index.index c.loop-index.rest.now c.in-Err.fault (times_at c.args.first c.args.count (record_in_at c.args.format) c.args.bytes.now) c.loop-index-test.true c.in-Err.ensures.found c.loop-index.invariant.told

pub loop-index-preserved : goal.loop-index-preserved
loop-index-preserved c =
    let pushed : c.push.new.self.items ≡ c.loop-index.recs.items ++ c.in-Ok.found.0 ∷ [] = c.in_ok-push.ensures.items in
    record {
      told = rw pushed (goes_on (record_in_at c.args.format) c.loop-index.recs.items (c.args.first + c.args.count) c.loop-index.index c.loop-index.rest.now c.in-Ok.found.0 c.in-Ok.found.1.now (times_at c.args.first c.args.count (record_in_at c.args.format) c.args.bytes.now) c.loop-index-test.true c.in-Ok.ensures.found c.loop-index.invariant.told);
      counted = omega (arith, c.loop-index.invariant.counted, c.in_ok-push.ensures.len);
      attempts = few_more c.loop-index.recs.items c.in-Ok.found.0 c.push.new.self.items pushed c.loop-index.invariant.attempts c.in-Ok.ensures.attempts;
    }

pub returns-clause-found : goal.returns-clause-found
returns-clause-found c =
    is_done (record_in_at c.args.format) c.loop-index.recs.items (c.args.first + c.args.count) c.loop-index.index c.loop-index.rest.now (times_at c.args.first c.args.count (record_in_at c.args.format) c.args.bytes.now) c.loop-index-test.false c.loop-index.invariant.told
